-- Each name of scripts has its object once the names are there.
use Rattle.std.proofs.Common.{arith, true, false, cond, ◌||◌, ◌≡◌, ◌<◌, ◌+◌, ◌∙◌, Result, Ok, Err, OnOk, ℕ, zero, suc, Bool, List, [], ◌∷◌, ◌++◌, Option, Some, None, refl, ap, sym, true≢false, length, inl, inr}
use Rattle.std.specs.Prelude.{nat_lt, position, IsSome, if◌then◌else◌}
use Rattle.std.specs.Option.{option_and_then}
use Rattle.std.specs.List.{list_any, position_or_len}
use Rattle.std.specs.Cmp.{unsigned_Decides}
use Rattle.std.proofs.lemmas.Bool.Decides.{nat_tests, eqb_tells}
use Rattle.std.proofs.lemmas.List.Folds.{list_any-append}
use Rattle.std.proofs.lemmas.List.Quantifiers.{position-Some}
use Rattle.indexmap.specs.IndexSet.{insert_key}
use Rattle.scons_base.specs.declared.memory.Memory.{Memory}
use Rattle.scons_calls.specs.declared.name.Name.TheVariants as name
use Rattle.scons_calls.specs.declared.name.Environs.TheVariants as environs
use Rattle.scons_calls.specs.declared.name.Stands.TheVariants as stands
use Rattle.scons_calls.specs.declared.thing.Thing.{Thing}
use Rattle.scons_calls.specs.Names.{Row, names_table, number_of, name_alone, where_so, is_alone, stands_in}
use Rattle.scons_calls.specs.Things.{Things, thing_eq, named, numbered, number_of_name, number_named, with_first_names, with_names}
use Rattle.scons_calls.proofs.Numbering.{first_names_more}

within_by : {X : Type 0} (p : X → Bool) (x : X) (xs : List X) (b : Bool) → p x ≡ b → (list_any p xs ≡ true → position_or_len p xs < length xs) → list_any p (x ∷ xs) ≡ true → position_or_len p (x ∷ xs) < suc (length xs)
within_by p x xs true is rest e = rw is (omega arith)
within_by p x xs false is rest e =
    let more : list_any p xs ≡ true = rw is at e in
    let l : position_or_len p xs < length xs = rest more in
    rw is (omega arith)

within : {X : Type 0} (p : X → Bool) (xs : List X) → list_any p xs ≡ true → position_or_len p xs < length xs
within p [] e = absurd (true≢false (sym e))
within p (x ∷ xs) e = within_by p x xs (p x) refl (within p xs) e

some_if : (b : Bool) (n : ℕ) → b ≡ true → IsSome (cond b (Some n) None)
some_if true n e = refl
some_if false n e = absurd (true≢false (sym e))

has_place : {X : Type 0} (p : X → Bool) (xs : List X) → list_any p xs ≡ true → IsSome (position p xs)
has_place p xs e =
    let l : position_or_len p xs < length xs = within p xs e in
    let test : nat_lt (position_or_len p xs) (length xs) ≡ true = grind (arith, nat_tests) in
    some_if (nat_lt (position_or_len p xs) (length xs)) (position_or_len p xs) test

kept_by : {X : Type 0} (p : X → Bool) (b : Bool) (xs : List X) (x : X) → list_any p xs ≡ true → list_any p (if b then xs else xs ++ x ∷ []) ≡ true
kept_by p true xs x e = e
kept_by p false xs x e = rw (list_any-append p xs (x ∷ [])) (rw e refl)

or_true : (b : Bool) → (b || true) ≡ true
or_true true = refl
or_true false = refl

put_by : (b : Bool) (things : Things) (one : Thing) → list_any (thing_eq one) things ≡ b → thing_eq one one ≡ true → list_any (thing_eq one) (if b then things else things ++ one ∷ []) ≡ true
put_by true things one is same = is
put_by false things one is same = rw (list_any-append (thing_eq one) things (one ∷ [])) (rw same (or_true (list_any (thing_eq one) things)))

has_named : (things : Things) (n k : ℕ) → k < n → list_any (thing_eq (named k)) (with_first_names n things) ≡ true
has_named things zero k l = absurd (omega arith)
has_named things (suc n) k l =
    let done : Things = with_first_names n things in
    let more : insert_key thing_eq done (named n) ≡ with_first_names (n + 1) things = first_names_more things done (insert_key thing_eq done (named n)) n (numbered done (named n)).0 refl refl in
    let next : n + 1 ≡ suc n = omega arith in
    let whole : insert_key thing_eq done (named n) ≡ with_first_names (suc n) things = more ∙ ap (λ m. with_first_names m things) next in
    let here : list_any (thing_eq (named k)) (insert_key thing_eq done (named n)) ≡ true = elim (eqb_tells k n) [
      | inl same ↦
          let is : named n ≡ named k = ap named (sym same.1) in
          rw is (put_by (list_any (thing_eq (named k)) done) done (named k) refl ((unsigned_Decides k k).1 refl))
      | inr other ↦
          let below : k < n = omega (arith, other.1) in
          kept_by (thing_eq (named k)) (list_any (thing_eq (named n)) done) done (named n) (has_named things n k below)
    ] in
    rw (← whole) here

no_row : Row
no_row = ([], name.Environs environs.Environment, stands.AsBoth)

has_number : (things : Things) (n : ℕ) (text : List ℕ) → number_of text ≡ Some n → IsSome (number_of_name (with_names things) n)
has_number things n text is =
    has_place (thing_eq (named n)) (with_names things) (has_named things (length names_table) n (position-Some _ names_table n no_row is).0)

-- a name of scripts has an object
pub has_object : (things : Things) (text : List ℕ) → IsSome (name_alone text) → IsSome (number_named (with_names things) text)
has_object things text stands = by (number_of text) refl
  where
    at : (n : ℕ) (b : Bool) → number_of text ≡ Some n → IsSome (where_so b n) → IsSome (option_and_then (number_of_name (with_names things)) (where_so b n))
    at n true is some = has_number things n text is
    at n false is none = none

    by : (o : Option ℕ) → number_of text ≡ o → IsSome (number_named (with_names things) text)
    by None is = let none : false ≡ true = rw is at stands in absurd (true≢false (sym none))
    by (Some n) is =
        let some : IsSome (where_so (is_alone (stands_in names_table n)) n) = rw is at stands in
        rw is (at n (is_alone (stands_in names_table n)) is some)

pub names_given : (things new : Things) (n : ℕ) (r : Result (Unit {0}) Memory) → n ≡ length names_table → OnOk r (new ≡ with_first_names n things) → OnOk r (new ≡ with_names things)
names_given things new n (Ok u) count made = made ∙ ap (λ m. with_first_names m things) count
names_given things new n (Err e) count made = tt

pub objects_given : (things new : Things) (n : ℕ) (r : Result (Unit {0}) Memory) → n ≡ length names_table → OnOk r (new ≡ with_first_names n things) → OnOk r ((text : List ℕ) → IsSome (name_alone text) → IsSome (number_named new text))
objects_given things new n (Ok u) count made =
    let whole : new ≡ with_names things = made ∙ ap (λ m. with_first_names m things) count in
    λ text stands. rw whole (has_object things text stands)
objects_given things new n (Err e) count made = tt
