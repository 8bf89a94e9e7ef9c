-- Objects that are given numbers.
use Rattle.std.proofs.Common.{arith, ◌≡◌, ◌≢◌, ◌∙◌, ◌+◌, ℕ, List, Result, Ok, Err, IfOk, IfErr, refl, ap, sym, subst, map}
use Rattle.std.specs.List.{range_with_len}
use Rattle.std.proofs.lemmas.List.FromFn.{map-range_with_len_more}
use Rattle.std.proofs.lemmas.List.Sums.{fold_push}
use Rattle.indexmap.specs.IndexSet.{insert_key, insert_all}
use Rattle.scons_base.specs.declared.memory.Memory.{Memory}
use Rattle.py_heap.specs.declared.ids.HostId.{HostId}
use Rattle.py_heap.specs.declared.value.Value.{Value}
use Rattle.py_heap.specs.declared.fault.ValueFault.{ValueFault}
use Rattle.py_heap.specs.Heap.{Objects}
use Rattle.scons_calls.specs.declared.thing.Thing.{Thing}
use Rattle.scons_calls.specs.declared.thing.Thing.TheVariants as thing
use Rattle.scons_calls.specs.Values.{shown_value}
use Rattle.scons_calls.specs.Things.{Things, thing_eq, named, numbered, with_first_names}

pub first_names_none : (things : Things) → things ≡ with_first_names 0 things
first_names_none things = refl

pub first_names_more : (things done new : Things) (n id : ℕ) → numbered done (named n) ≡ (id, new) → done ≡ with_first_names n things → new ≡ with_first_names (n + 1) things
first_names_more things done new n id made before =
    let added : insert_key thing_eq done (named n) ≡ new = ap (λ (p : ℕ × Things). p.1) made in
    let more : with_first_names (n + 1) things ≡ insert_key thing_eq (with_first_names n things) (named n) =
    ap (insert_all thing_eq things) (map-range_with_len_more named 0 n n (omega arith)) ∙ fold_push (insert_key thing_eq) things (map named (range_with_len 0 n)) (named n) in
    sym added ∙ ap (λ (d : Things). insert_key thing_eq d (named n)) before ∙ sym more

pub numbered_as : (things new : Things) (a b : Thing) (r : Result HostId Memory) → a ≡ b → IfOk r (λ id. numbered things a ≡ (id.0, new)) → IfOk r (λ id. numbered things b ≡ (id.0, new))
numbered_as things new a b r e ok = subst (λ (t : Thing). IfOk r (λ id. numbered things t ≡ (id.0, new))) e ok

-- the object of a path or name that is equal to another is that of the other, shown as a text that is equal to it
pub file_ok : (things new : Things) (h h2 : Objects) (p t q : List ℕ) (r : Result Value ValueFault) → p ≡ q → t ≡ q → IfOk r (λ v. shown_value h t (numbered things (thing.File p)) ≡ Ok (v, new, h2)) → IfOk r (λ v. shown_value h q (numbered things (thing.File q)) ≡ Ok (v, new, h2))
file_ok things new h h2 p t q r e f ok =
    let one : IfOk r (λ v. shown_value h t (numbered things (thing.File q)) ≡ Ok (v, new, h2)) = subst (λ (s : List ℕ). IfOk r (λ v. shown_value h t (numbered things (thing.File s)) ≡ Ok (v, new, h2))) e ok in
    subst (λ (s : List ℕ). IfOk r (λ v. shown_value h s (numbered things (thing.File q)) ≡ Ok (v, new, h2))) f one

pub file_fault : (things : Things) (h : Objects) (p t q : List ℕ) (none : ValueFault) (r : Result Value ValueFault) → p ≡ q → t ≡ q → IfErr r (λ e. e ≢ none → shown_value h t (numbered things (thing.File p)) ≡ Err e) → IfErr r (λ e. e ≢ none → shown_value h q (numbered things (thing.File q)) ≡ Err e)
file_fault things h p t q none r e f fault =
    let one : IfErr r (λ e. e ≢ none → shown_value h t (numbered things (thing.File q)) ≡ Err e) = subst (λ (s : List ℕ). IfErr r (λ e. e ≢ none → shown_value h t (numbered things (thing.File s)) ≡ Err e)) e fault in
    subst (λ (s : List ℕ). IfErr r (λ e. e ≢ none → shown_value h s (numbered things (thing.File q)) ≡ Err e)) f one

pub dir_ok : (things new : Things) (h h2 : Objects) (p t q : List ℕ) (r : Result Value ValueFault) → p ≡ q → t ≡ q → IfOk r (λ v. shown_value h t (numbered things (thing.Dir p)) ≡ Ok (v, new, h2)) → IfOk r (λ v. shown_value h q (numbered things (thing.Dir q)) ≡ Ok (v, new, h2))
dir_ok things new h h2 p t q r e f ok =
    let one : IfOk r (λ v. shown_value h t (numbered things (thing.Dir q)) ≡ Ok (v, new, h2)) = subst (λ (s : List ℕ). IfOk r (λ v. shown_value h t (numbered things (thing.Dir s)) ≡ Ok (v, new, h2))) e ok in
    subst (λ (s : List ℕ). IfOk r (λ v. shown_value h s (numbered things (thing.Dir q)) ≡ Ok (v, new, h2))) f one

pub dir_fault : (things : Things) (h : Objects) (p t q : List ℕ) (none : ValueFault) (r : Result Value ValueFault) → p ≡ q → t ≡ q → IfErr r (λ e. e ≢ none → shown_value h t (numbered things (thing.Dir p)) ≡ Err e) → IfErr r (λ e. e ≢ none → shown_value h q (numbered things (thing.Dir q)) ≡ Err e)
dir_fault things h p t q none r e f fault =
    let one : IfErr r (λ e. e ≢ none → shown_value h t (numbered things (thing.Dir q)) ≡ Err e) = subst (λ (s : List ℕ). IfErr r (λ e. e ≢ none → shown_value h t (numbered things (thing.Dir s)) ≡ Err e)) e fault in
    subst (λ (s : List ℕ). IfErr r (λ e. e ≢ none → shown_value h s (numbered things (thing.Dir q)) ≡ Err e)) f one

pub alias_ok : (things new : Things) (h h2 : Objects) (p t q : List ℕ) (r : Result Value ValueFault) → p ≡ q → t ≡ q → IfOk r (λ v. shown_value h t (numbered things (thing.Alias p)) ≡ Ok (v, new, h2)) → IfOk r (λ v. shown_value h q (numbered things (thing.Alias q)) ≡ Ok (v, new, h2))
alias_ok things new h h2 p t q r e f ok =
    let one : IfOk r (λ v. shown_value h t (numbered things (thing.Alias q)) ≡ Ok (v, new, h2)) = subst (λ (s : List ℕ). IfOk r (λ v. shown_value h t (numbered things (thing.Alias s)) ≡ Ok (v, new, h2))) e ok in
    subst (λ (s : List ℕ). IfOk r (λ v. shown_value h s (numbered things (thing.Alias q)) ≡ Ok (v, new, h2))) f one

pub alias_fault : (things : Things) (h : Objects) (p t q : List ℕ) (none : ValueFault) (r : Result Value ValueFault) → p ≡ q → t ≡ q → IfErr r (λ e. e ≢ none → shown_value h t (numbered things (thing.Alias p)) ≡ Err e) → IfErr r (λ e. e ≢ none → shown_value h q (numbered things (thing.Alias q)) ≡ Err e)
alias_fault things h p t q none r e f fault =
    let one : IfErr r (λ e. e ≢ none → shown_value h t (numbered things (thing.Alias q)) ≡ Err e) = subst (λ (s : List ℕ). IfErr r (λ e. e ≢ none → shown_value h t (numbered things (thing.Alias s)) ≡ Err e)) e fault in
    subst (λ (s : List ℕ). IfErr r (λ e. e ≢ none → shown_value h s (numbered things (thing.Alias q)) ≡ Err e)) f one

pub ruleset naming = (file_ok, dir_ok, alias_ok, file_fault, dir_fault, alias_fault)

pub ruleset numbering = (first_names_none, first_names_more, numbered_as)
