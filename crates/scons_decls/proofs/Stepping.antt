-- Steps over a list, by what is left of it.
use Rattle.std.proofs.Common.{arith, ◌≡◌, ◌<◌, ◌+◌, ℕ, List, [], ◌∷◌, ◌++◌, ap, refl, sym, ◌∙◌, length, drop, get_or, add-one, append_assoc, drop-cons}
use Rattle.std.specs.Prelude.{Result, Ok, Err}
use Rattle.scons_decls.specs.declared.fault.NameFault.{NameFault}
use Rattle.scons_decls.specs.Steps.{and_then, each, all_of, in_turn, Checked}

-- what is left gives, behind what is done
abbrev pub behind : {Y : Type 0} → List Y → Result (List Y) NameFault → Result (List Y) NameFault
behind done (Ok more) = Ok (done ++ more)
behind done (Err e) = Err e

pub drop_next : {X : Type 0} (xs : List X) (i : ℕ) (d : X) → i < length xs → drop i xs ≡ get_or xs i d ∷ drop (i + 1) xs
drop_next xs i d l = rw add-one (drop-cons xs i d l)

module _ {X Y : Type 0} (f : X → Result Y NameFault) where
  one_behind : (ys : List Y) (y : Y) (rest : Result (List Y) NameFault) → behind (ys ++ y ∷ []) rest ≡ behind ys (and_then rest (λ zs. Ok (y ∷ zs)))
  one_behind ys y (Ok zs) = ap Ok (append_assoc ys (y ∷ []) zs)
  one_behind ys y (Err e) = refl

  -- one item more
  pub each_step : (xs : List X) (i : ℕ) (d : X) (ys : List Y) (y : Y) (r : Result (List Y) NameFault) → i < length xs
      → behind ys (each f (drop i xs)) ≡ r → f (get_or xs i d) ≡ Ok y → behind (ys ++ y ∷ []) (each f (drop (i + 1) xs)) ≡ r
  each_step xs i d ys y r l left one =
      let all : behind ys (and_then (f (get_or xs i d)) (λ z. and_then (each f (drop (i + 1) xs)) (λ zs. Ok (z ∷ zs)))) ≡ r = rw (drop_next xs i d l) at left in
      one_behind ys y (each f (drop (i + 1) xs)) ∙ (rw one at all)

  -- an item at which it ends
  pub each_stop : (xs : List X) (i : ℕ) (d : X) (ys : List Y) (e : NameFault) (r : Result (List Y) NameFault) → i < length xs
      → behind ys (each f (drop i xs)) ≡ r → f (get_or xs i d) ≡ Err e → r ≡ Err e
  each_stop xs i d ys e r l left one =
      let all : behind ys (and_then (f (get_or xs i d)) (λ z. and_then (each f (drop (i + 1) xs)) (λ zs. Ok (z ∷ zs)))) ≡ r = rw (drop_next xs i d l) at left in
      sym (rw one at all)

module _ {X : Type 0} (f : X → Checked) where
  pub all_step : (xs : List X) (i : ℕ) (d : X) (r : Checked) → i < length xs → all_of f (drop i xs) ≡ r → f (get_or xs i d) ≡ Ok tt → all_of f (drop (i + 1) xs) ≡ r
  all_step xs i d r l left one =
      let all : and_then (f (get_or xs i d)) (λ u. all_of f (drop (i + 1) xs)) ≡ r = rw (drop_next xs i d l) at left in
      rw one at all

  pub all_stop : (xs : List X) (i : ℕ) (d : X) (e : NameFault) (r : Checked) → i < length xs → all_of f (drop i xs) ≡ r → f (get_or xs i d) ≡ Err e → r ≡ Err e
  all_stop xs i d e r l left one =
      let all : and_then (f (get_or xs i d)) (λ u. all_of f (drop (i + 1) xs)) ≡ r = rw (drop_next xs i d l) at left in
      sym (rw one at all)

module _ {X S : Type 0} (step : X → S → Result S NameFault) where
  pub turn_step : (xs : List X) (i : ℕ) (d : X) (s t : S) (r : Result S NameFault) → i < length xs → in_turn step (drop i xs) s ≡ r → step (get_or xs i d) s ≡ Ok t
      → in_turn step (drop (i + 1) xs) t ≡ r
  turn_step xs i d s t r l left one =
      let all : and_then (step (get_or xs i d) s) (in_turn step (drop (i + 1) xs)) ≡ r = rw (drop_next xs i d l) at left in
      rw one at all

  pub turn_stop : (xs : List X) (i : ℕ) (d : X) (s : S) (e : NameFault) (r : Result S NameFault) → i < length xs → in_turn step (drop i xs) s ≡ r → step (get_or xs i d) s ≡ Err e → r ≡ Err e
  turn_stop xs i d s e r l left one =
      let all : and_then (step (get_or xs i d) s) (in_turn step (drop (i + 1) xs)) ≡ r = rw (drop_next xs i d l) at left in
      sym (rw one at all)
