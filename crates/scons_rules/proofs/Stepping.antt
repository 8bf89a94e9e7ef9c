-- Steps over a list, by what is left of it.
use Rattle.std.proofs.Common.{arith, ◌≡◌, ◌<◌, ◌≤◌, ◌+◌, ℕ, zero, suc, List, [], ◌∷◌, ◌++◌, ap, refl, sym, ◌∙◌, length, map, drop, get_or, add-one, append_assoc, append-nil, drop-cons}
use Rattle.std.specs.Prelude.{Result, Ok, Err, fold}
use Rattle.std.proofs.lemmas.List.{length-map, get_or-map}
use Rattle.scons_rules.specs.Steps.{and_then, each, all_of, in_turn}

-- what is left gives, behind what is done
abbrev pub behind : {Y E : Type 0} → List Y → Result (List Y) E → Result (List Y) E
behind done (Ok more) = Ok (done ++ more)
behind done (Err e) = Err e

pub drop_next : {X : Type 0} (xs : List X) (i : ℕ) (d : X) → i < length xs → drop i xs ≡ get_or xs i d ∷ drop (i + 1) xs
drop_next xs i d l = rw add-one (drop-cons xs i d l)

nothing_behind : {X : Type 0} (xs : List X) (k : ℕ) → length xs ≤ k → drop k xs ≡ []
nothing_behind [] zero l = refl
nothing_behind [] (suc k) l = refl
nothing_behind (x ∷ xs) zero l = absurd (omega arith)
nothing_behind (x ∷ xs) (suc k) l = nothing_behind xs k (omega arith)

-- the same where what the items stand for is gone over
pub mapped_at : {X Z : Type 0} (v : X → Z) (xs : List X) (i : ℕ) (d : X) → i < length xs → drop i (map v xs) ≡ v (get_or xs i d) ∷ drop (i + 1) (map v xs)
mapped_at v xs i d l =
    drop_next (map v xs) i (v d) (rw (length-map xs v) l) ∙ ap (λ y. y ∷ drop (i + 1) (map v xs)) (get_or-map v xs i d (v d) l)

module _ {X Y E : Type 0} (f : X → Result Y E) where
  one_behind : (ys : List Y) (y : Y) (rest : Result (List Y) E) → behind (ys ++ y ∷ []) rest ≡ behind ys (and_then rest (λ zs. Ok (y ∷ zs)))
  one_behind ys y (Ok zs) = ap Ok (append_assoc ys (y ∷ []) zs)
  one_behind ys y (Err e) = refl

  -- one item more
  pub each_step : (xs : List X) (i : ℕ) (d : X) (ys : List Y) (y : Y) (r : Result (List Y) E) → i < length xs
      → behind ys (each f (drop i xs)) ≡ r → f (get_or xs i d) ≡ Ok y → behind (ys ++ y ∷ []) (each f (drop (i + 1) xs)) ≡ r
  each_step xs i d ys y r l left one =
      let all : behind ys (and_then (f (get_or xs i d)) (λ z. and_then (each f (drop (i + 1) xs)) (λ zs. Ok (z ∷ zs)))) ≡ r = rw (drop_next xs i d l) at left in
      one_behind ys y (each f (drop (i + 1) xs)) ∙ (rw one at all)

  -- no item is left
  pub each_all : (xs : List X) (i : ℕ) (ys : List Y) (r : Result (List Y) E) → length xs ≤ i → behind ys (each f (drop i xs)) ≡ r → r ≡ Ok ys
  each_all xs i ys r l left = sym left ∙ rw (nothing_behind xs i l) (ap Ok (append-nil ys))

  -- an item at which it ends
  pub each_stop : (xs : List X) (i : ℕ) (d : X) (ys : List Y) (e : E) (r : Result (List Y) E) → i < length xs
      → behind ys (each f (drop i xs)) ≡ r → f (get_or xs i d) ≡ Err e → r ≡ Err e
  each_stop xs i d ys e r l left one =
      let all : behind ys (and_then (f (get_or xs i d)) (λ z. and_then (each f (drop (i + 1) xs)) (λ zs. Ok (z ∷ zs)))) ≡ r = rw (drop_next xs i d l) at left in
      sym (rw one at all)

module _ {X E : Type 0} (f : X → Result (Unit {0}) E) where
  pub all_step : (xs : List X) (i : ℕ) (d : X) (r : Result (Unit {0}) E) → i < length xs → all_of f (drop i xs) ≡ r → f (get_or xs i d) ≡ Ok tt → all_of f (drop (i + 1) xs) ≡ r
  all_step xs i d r l left one =
      let all : and_then (f (get_or xs i d)) (λ u. all_of f (drop (i + 1) xs)) ≡ r = rw (drop_next xs i d l) at left in
      rw one at all

  pub all_stop : (xs : List X) (i : ℕ) (d : X) (e : E) (r : Result (Unit {0}) E) → i < length xs → all_of f (drop i xs) ≡ r → f (get_or xs i d) ≡ Err e → r ≡ Err e
  all_stop xs i d e r l left one =
      let all : and_then (f (get_or xs i d)) (λ u. all_of f (drop (i + 1) xs)) ≡ r = rw (drop_next xs i d l) at left in
      sym (rw one at all)

module _ {X S E : Type 0} (step : X → S → Result S E) where
  pub turn_step : (xs : List X) (i : ℕ) (d : X) (s t : S) (r : Result S E) → i < length xs → in_turn step (drop i xs) s ≡ r → step (get_or xs i d) s ≡ Ok t
      → in_turn step (drop (i + 1) xs) t ≡ r
  turn_step xs i d s t r l left one =
      let all : and_then (step (get_or xs i d) s) (in_turn step (drop (i + 1) xs)) ≡ r = rw (drop_next xs i d l) at left in
      rw one at all

  pub turn_stop : (xs : List X) (i : ℕ) (d : X) (s : S) (e : E) (r : Result S E) → i < length xs → in_turn step (drop i xs) s ≡ r → step (get_or xs i d) s ≡ Err e → r ≡ Err e
  turn_stop xs i d s e r l left one =
      let all : and_then (step (get_or xs i d) s) (in_turn step (drop (i + 1) xs)) ≡ r = rw (drop_next xs i d l) at left in
      sym (rw one at all)

-- what the items of a list give, gathered
abbrev pub gathered : {X Y S E : Type 0} → (X → Result Y E) → (S → Y → S) → S → List X → Result S E
gathered f g s xs = and_then (each f xs) (λ ys. Ok (fold g s ys))

module _ {X Y S E : Type 0} (f : X → Result Y E) (g : S → Y → S) where
  one_gathered : (s : S) (y : Y) (rest : Result (List Y) E)
      → and_then rest (λ ys. Ok (fold g (g s y) ys)) ≡ and_then (and_then rest (λ ys. Ok (y ∷ ys))) (λ ys. Ok (fold g s ys))
  one_gathered s y (Ok ys) = refl
  one_gathered s y (Err e) = refl

  pub gather_step : (xs : List X) (i : ℕ) (d : X) (s : S) (y : Y) (r : Result S E) → i < length xs → gathered f g s (drop i xs) ≡ r → f (get_or xs i d) ≡ Ok y
      → gathered f g (g s y) (drop (i + 1) xs) ≡ r
  gather_step xs i d s y r l left one =
      let all : and_then (and_then (f (get_or xs i d)) (λ z. and_then (each f (drop (i + 1) xs)) (λ zs. Ok (z ∷ zs)))) (λ ys. Ok (fold g s ys)) ≡ r =
      rw (drop_next xs i d l) at left in
      one_gathered s y (each f (drop (i + 1) xs)) ∙ (rw one at all)

  pub gather_stop : (xs : List X) (i : ℕ) (d : X) (s : S) (e : E) (r : Result S E) → i < length xs → gathered f g s (drop i xs) ≡ r → f (get_or xs i d) ≡ Err e → r ≡ Err e
  gather_stop xs i d s e r l left one =
      let all : and_then (and_then (f (get_or xs i d)) (λ z. and_then (each f (drop (i + 1) xs)) (λ zs. Ok (z ∷ zs)))) (λ ys. Ok (fold g s ys)) ≡ r =
      rw (drop_next xs i d l) at left in
      sym (rw one at all)

  -- the same where what the items stand for is gone over
  pub gather_on : {Z : Type 0} (v : Z → X) (zs : List Z) (i : ℕ) (d : Z) (s : S) (y : Y) (r : Result S E) → i < length zs
      → gathered f g s (drop i (map v zs)) ≡ r → f (v (get_or zs i d)) ≡ Ok y → gathered f g (g s y) (drop (i + 1) (map v zs)) ≡ r
  gather_on v zs i d s y r l left one =
      let all : and_then (and_then (f (v (get_or zs i d))) (λ w. and_then (each f (drop (i + 1) (map v zs))) (λ ws. Ok (w ∷ ws)))) (λ ys. Ok (fold g s ys)) ≡ r =
      rw (mapped_at v zs i d l) at left in
      one_gathered s y (each f (drop (i + 1) (map v zs))) ∙ (rw one at all)

  pub gather_stop_on : {Z : Type 0} (v : Z → X) (zs : List Z) (i : ℕ) (d : Z) (s : S) (e : E) (r : Result S E) → i < length zs
      → gathered f g s (drop i (map v zs)) ≡ r → f (v (get_or zs i d)) ≡ Err e → r ≡ Err e
  gather_stop_on v zs i d s e r l left one =
      let all : and_then (and_then (f (v (get_or zs i d))) (λ w. and_then (each f (drop (i + 1) (map v zs))) (λ ws. Ok (w ∷ ws)))) (λ ys. Ok (fold g s ys)) ≡ r =
      rw (mapped_at v zs i d l) at left in
      sym (rw one at all)
