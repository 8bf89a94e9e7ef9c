-- A list made item after item.
use Rattle.std.proofs.Common.{arith, ◌≡◌, ◌∙◌, ◌≤◌, ◌+◌, ℕ, List, [], ◌∷◌, ◌++◌, Some, None, ap, sym, take, length, map, inl, inr}
use Rattle.std.specs.Prelude.{slice_get}
use Rattle.std.proofs.lemmas.List.{take_more, take_all, length-map}
use Rattle.std.proofs.lemmas.Option.{slice_get_within, get_or_from_slice_get, slice_get_cases}

pub taken_more : {X : Type 0} (xs made new : List X) (i : ℕ) (x : X) → made ≡ take i xs → slice_get xs i ≡ Some x → new ≡ made ++ x ∷ [] → new ≡ take (i + 1) xs
taken_more xs made new i x m s n =
    let more : take (i + 1) xs ≡ take i xs ++ x ∷ [] = take_more xs i x (slice_get_within xs i x s) ∙ ap (λ y. take i xs ++ y ∷ []) (get_or_from_slice_get xs i x x s) in
    n ∙ ap (λ ys. ys ++ x ∷ []) m ∙ sym more

none_past : {X : Type 0} (xs : List X) (i : ℕ) → slice_get xs i ≡ None → length xs ≤ i
none_past xs i none = elim (slice_get_cases xs i).1 [
  | inl s ↦ let some : slice_get xs i ≡ Some s.0 = s.2 in cc
  | inr p ↦ p.0
]

pub taken_none : {X : Type 0} (xs made : List X) (i : ℕ) → made ≡ take i xs → slice_get xs i ≡ None → made ≡ take (i + 1) xs
taken_none xs made i m none =
    let past = none_past xs i none in
    m ∙ take_all i xs past ∙ sym (take_all (i + 1) xs (omega arith))

pub taken_all : {X Y : Type 0} (f : X → Y) (xs : List X) (made : List Y) (i : ℕ) → made ≡ take i (map f xs) → length xs ≤ i → made ≡ map f xs
taken_all f xs made i m l = m ∙ take_all i (map f xs) (omega (arith, length-map xs f))

pub ruleset turns = (taken_more, taken_none, taken_all)
