-- A walk down through lists by a stack of its own.
use Rattle.std.proofs.Common.{arith, ◌≡◌, ◌<◌, ◌≤◌, ◌∙◌, ℕ, zero, suc, ◌+◌, ◌-◌, List, [], ◌∷◌, ◌++◌, Bool, true, false, ap, sym, refl, length, map, take, Some, None, Option}
use Rattle.std.specs.Borrow.{Bor}
use Rattle.std.specs.Prelude.{Result, Ok, Err, OnOk, nat_eq, is_some, get_or, slice_get}
use Rattle.std.specs.Slice.{IsItemAt}
use Rattle.std.proofs.lemmas.Bool.{ltb-true, ltb-false}
use Rattle.std.proofs.lemmas.Option.{slice_get_past, slice_get_read}
use Rattle.std.specs.List.{list_any}
use Rattle.std.proofs.lemmas.List.{length-append}
use Rattle.scons_decls.specs.declared.given.Given.{Given}
use Rattle.scons_rules.specs.declared.orders.Step.{Step}
use Rattle.scons_rules.specs.declared.orders.Step.TheVariants.{Member, Inner}
use Rattle.scons_rules.specs.Orders.{Lists, Gone, over, entered, list_at, flattened, nothing_gone, with_member}
use Rattle.scons_rules.specs.Walks.{unwound, Begins, Takes}

less_none : (n : ℕ) → n - 0 ≡ n
less_none n = omega arith

add_one : (k : ℕ) → k + 1 ≡ suc k
add_one k = omega arith

-- what stands last is gone over first
pub unwound_push : (lists : Lists) (n : ℕ) (left : List (List Step)) (steps : List Step) (g : Gone)
    → unwound lists n (left ++ steps ∷ []) g ≡ unwound lists n left (over (list_at lists (n - length left)) steps g)
unfolding unwound
unwound_push lists n [] steps g = ap (λ k. over (list_at lists k) steps g) (sym (less_none n))
unwound_push lists n (x ∷ left) steps g =
    ap (over (list_at lists n) x)
    (unwound_push lists (n - 1) left steps g ∙ ap (λ k. unwound lists (n - 1) left (over (list_at lists k) steps g)) (same (length left)))
  where
    same : (k : ℕ) → (n - 1) - k ≡ n - suc k
    same k = omega arith

pub over_none : (lists : Lists) (n : ℕ) (left : List (List Step)) (steps : List Step) (g : Gone) → length steps ≡ 0 → unwound lists n left g ≡ unwound lists n (left ++ steps ∷ []) g
over_none lists n left [] g e = sym (unwound_push lists n left [] g)
over_none lists n left (x ∷ steps) g e = absurd (omega arith)

pub over_member : (lists : Lists) (n : ℕ) (left : List (List Step)) (m : Given) (rest : List Step) (g : Gone)
    → unwound lists n (left ++ rest ∷ []) (with_member g m) ≡ unwound lists n (left ++ (Member m ∷ rest) ∷ []) g
over_member lists n left m rest g = unwound_push lists n left rest (with_member g m) ∙ sym (unwound_push lists n left (Member m ∷ rest) g)

pub over_inner : (lists : Lists) (n k : ℕ) (left : List (List Step)) (place : ℕ) (rest : List Step) (g : Gone) → k ≡ n - length left
    → unwound lists n (left ++ rest ∷ []) (list_at lists k place g) ≡ unwound lists n (left ++ (Inner place ∷ rest) ∷ []) g
over_inner lists n k left place rest g is =
    unwound_push lists n left rest (list_at lists k place g)
    ∙ ap (λ k. unwound lists n left (over (list_at lists (n - length left)) rest (list_at lists k place g))) is
    ∙ sym (unwound_push lists n left (Inner place ∷ rest) g)

pub entered_none : (lists : Lists) (n : ℕ) (left : List (List Step)) (place k : ℕ) (g : Gone) (r : Option (Bor (List Step))) → IsItemAt lists place r → r ≡ None
    → unwound lists n left g ≡ unwound lists n left (list_at lists (k + 1) place g)
unfolding list_at
entered_none lists n left place k g r found none = ap (unwound lists n left) (rw (add_one k, nothing) refl)
  where
    nothing : slice_get lists place ≡ None
    nothing = slice_get_past lists place (ltb-false place (length lists) (sym found.0 ∙ ap is_some none))

entered_at : (lists : Lists) (place k : ℕ) (g : Gone) (steps : List Step) → slice_get lists place ≡ Some steps → list_at lists (k + 1) place g ≡ entered (over (list_at lists k)) (Some steps) place g
unfolding list_at
entered_at lists place k g steps got = rw (add_one k, got) refl

pub entered_some : (lists : Lists) (n : ℕ) (left more : List (List Step)) (place : ℕ) (g new : Gone) (r : Option (Bor (List Step))) (b : Bor (List Step)) (steps : List Step)
    → IsItemAt lists place r → r ≡ Some b → steps ≡ b.now → Begins left g place steps more new
    → unwound lists n more new ≡ unwound lists n left (list_at lists (n - length left + 1) place g)
entered_some lists n left more place g new r b steps found some is begins = by (list_any (nat_eq place) g.met) refl
  where
    within : place < length lists
    within = ltb-true place (length lists) (sym found.0 ∙ ap is_some some)

    item : b.now ≡ get_or lists place b.now
    item = rw some at found.1

    got : slice_get lists place ≡ Some steps
    got = slice_get_read lists (length lists) place b.now refl within item ∙ ap Some (sym is)

    into : list_at lists (n - length left + 1) place g ≡ entered (over (list_at lists (n - length left))) (Some steps) place g
    into = entered_at lists place (n - length left) g steps got

    by : (a : Bool) → list_any (nat_eq place) g.met ≡ a → unwound lists n more new ≡ unwound lists n left (list_at lists (n - length left + 1) place g)
    by true e =
        let left_is : more ≡ left = begins.1 ∙ rw e refl in
        let new_is : new ≡ g = begins.0 ∙ rw e refl in
        let same : list_at lists (n - length left + 1) place g ≡ g = into ∙ rw e refl in
        rw (left_is, new_is, same) refl
    by false e =
        let left_is : more ≡ left ++ steps ∷ [] = begins.1 ∙ rw e refl in
        let new_is : new ≡ record { met = g.met ++ place ∷ []; found = g.found } = begins.0 ∙ rw e refl in
        let goes : list_at lists (n - length left + 1) place g ≡ over (list_at lists (n - length left)) steps (record { met = g.met ++ place ∷ []; found = g.found }) = into ∙ rw e refl in
        rw (left_is, new_is, goes) (unwound_push lists n left steps (record { met = g.met ++ place ∷ []; found = g.found }))

pub on_ok : {X E A B : Type 0} → (r : Result X E) → OnOk r A → (A → B) → OnOk r B
on_ok (Ok x) a f = f a
on_ok (Err e) a f = tt

pub both_ok : {X E : Type 0} (A B : Type 0) (r : Result X E) → OnOk r A → OnOk r B → OnOk r (A × B)
both_ok A B (Ok x) a b = (a, b)
both_ok A B (Err e) a b = tt

pub member_taken : (lists : Lists) (step : Step) (m : Given) (left more : List (List Step)) (g new : Gone) → step ≡ Member m → more ≡ left → new ≡ with_member g m
    → Takes lists step left g more new
member_taken lists step m left more g new is same found = record {
  takes = λ front rest stands. rw (is, same, found, stands) (over_member lists (length lists) front m rest g);
}

pub inner_taken : (lists : Lists) (step : Step) (place : ℕ) (left more : List (List Step)) (g new : Gone) → step ≡ Inner place → length left ≤ length lists
    → unwound lists (length lists) more new ≡ unwound lists (length lists) left (list_at lists (length lists - length left + 1) place g)
    → Takes lists step left g more new
inner_taken lists step place left more g new is fits entered = record {
  takes = λ front rest stands.
      entered ∙ by front rest stands ∙ ap (λ (s : Step). unwound lists (length lists) (front ++ (s ∷ rest) ∷ []) g) (sym is);
}
  where
    count : (n a b : ℕ) → b ≡ a + 1 → b ≤ n → n - b + 1 ≡ n - a
    count n a b e l = omega arith

    by : (front : List (List Step)) (rest : List Step) → left ≡ front ++ rest ∷ []
        → unwound lists (length lists) left (list_at lists (length lists - length left + 1) place g)
        ≡ unwound lists (length lists) (front ++ (Inner place ∷ rest) ∷ []) g
    by front rest stands =
        ap (λ l. unwound lists (length lists) l (list_at lists (length lists - length left + 1) place g)) stands
        ∙ over_inner lists (length lists) (length lists - length left + 1) front place rest g
        (count (length lists) (length front) (length left) (ap length stands ∙ length-append front (rest ∷ [])) fits)

pub stepped : (lists : Lists) (front left more : List (List Step)) (steps rest : List Step) (step : Step) (g new : Gone) → left ≡ front ++ rest ∷ [] → steps ≡ step ∷ rest
    → Takes lists step left g more new → unwound lists (length lists) more new ≡ unwound lists (length lists) (front ++ steps ∷ []) g
stepped lists front left more steps rest step g new stands is t = rw is (t.takes front rest stands)

pub over_done : (lists : Lists) (n : ℕ) (left : List (List Step)) (g all : Gone) → left ≡ [] → unwound lists n left g ≡ all → g ≡ all
unfolding unwound
over_done lists n left g all none is = sym (ap (λ l. unwound lists n l g) none) ∙ is

pub begun_at : (lists : Lists) (place : ℕ) (left first : List (List Step)) (g0 g1 g : Gone) → left ≡ [] → g0 ≡ nothing_gone
    → unwound lists (length lists) first g1 ≡ unwound lists (length lists) left (list_at lists (length lists - length left + 1) place g0)
    → g ≡ unwound lists (length lists) first g1 → g.found ≡ flattened lists place
unfolding flattened unwound
begun_at lists place left first g0 g1 g none nothing entered over =
    ap (λ (h : Gone). h.found)
    (over ∙ entered ∙ ap (λ l. unwound lists (length lists) l (list_at lists (length lists - length l + 1) place g0)) none
    ∙ ap (λ (h : Gone). list_at lists (length lists - 0 + 1) place h) nothing ∙ ap (λ k. list_at lists (k + 1) place nothing_gone) (less_none (length lists)))

pub none_popped : (old new : List (Bor (List Step))) (n m : ℕ) → old ≡ new ++ [] → new ≡ take (n - 1) old → (n ≡ 0) × (m ≡ 0) → map (λ s. s.now) old ≡ []
none_popped old new n m e rest c = ap (map (λ s. s.now)) (e ∙ ap (λ xs. xs ++ []) (rest ∙ ap (λ k. take (k - 1) old) c.0))
