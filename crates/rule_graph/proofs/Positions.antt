-- The first place of a list at which a test passes.
use Rattle.std.proofs.Common.{arith, ◌≡◌, ◌<◌, ◌∙◌, ℕ, zero, suc, ◌+◌, List, [], ◌∷◌, ◌++◌, Bool, true, false, not, cond, ap, sym, refl, length, Some, None, Option}
use Rattle.std.specs.Prelude.{nat_lt, position, slice_get}
use Rattle.std.specs.List.{position_or_len}
use Rattle.std.specs.Option.{option_map}
use Rattle.std.proofs.lemmas.Bool.{lt-ltb}
use Rattle.std.proofs.lemmas.Bool.Decides.{nat_tests}

ltb-suc : (a b : ℕ) → nat_lt (1 + a) (suc b) ≡ nat_lt a b
ltb-suc a b = grind (arith, nat_tests)

none_later : (o : Option ℕ) → option_map suc o ≡ None → o ≡ None
none_later None e = refl
none_later (Some n) e = cc

later_by : (b : Bool) (n : ℕ) → cond b (Some (1 + n)) None ≡ option_map suc (cond b (Some n) None)
later_by true n = ap Some (omega arith)
later_by false n = refl

module _ {X : Type 0} (p : X → Bool) where
  pub here : (x : X) (xs : List X) → p x ≡ true → position p (x ∷ xs) ≡ Some 0
  here x xs e = rw (e, lt-ltb 0 (suc (length xs)) (omega arith)) refl

  pub later : (x : X) (xs : List X) → p x ≡ false → position p (x ∷ xs) ≡ option_map suc (position p xs)
  later x xs e = rw (e, ltb-suc (position_or_len p xs) (length xs)) (later_by (nat_lt (position_or_len p xs) (length xs)) (position_or_len p xs))

  Nowhere : List X → Type 0
  Nowhere xs = (i : ℕ) (x : X) → slice_get xs i ≡ Some x → p x ≡ false

  nowhere_later : (y : X) (xs : List X) → p y ≡ false → ((i : ℕ) (x : X) → slice_get xs i ≡ Some x → p x ≡ false) → (i : ℕ) (x : X) → slice_get (y ∷ xs) i ≡ Some x → p x ≡ false
  nowhere_later y xs fails rest zero x e = let same : y ≡ x = cc in rw (sym same) fails
  nowhere_later y xs fails rest (suc i) x e = rest i x e

  none_by : (y : X) (xs : List X) (b : Bool) → p y ≡ b → position p (y ∷ xs) ≡ None → (position p xs ≡ None → (i : ℕ) (x : X) → slice_get xs i ≡ Some x → p x ≡ false) → (i : ℕ) (x : X) → slice_get (y ∷ xs) i ≡ Some x → p x ≡ false
  none_by y xs true e none rest = let first : position p (y ∷ xs) ≡ Some 0 = here y xs e in absurd (cc)
  none_by y xs false e none rest = nowhere_later y xs e (rest (none_later (position p xs) (sym (later y xs e) ∙ none)))

  -- without a first place it passes nowhere
  pub nowhere : (xs : List X) → position p xs ≡ None → (i : ℕ) (x : X) → slice_get xs i ≡ Some x → p x ≡ false
  nowhere [] none = λ i x e. absurd (cc)
  nowhere (y ∷ xs) none = none_by y xs (p y) refl none (nowhere xs)

  Found : List X → ℕ → Type 0
  Found xs i = (x : X) × (slice_get xs i ≡ Some x) × (p x ≡ true)

  at_later : (y : X) (xs : List X) (i : ℕ) (o : Option ℕ) → position p xs ≡ o → option_map suc o ≡ Some i
      → ((n : ℕ) → position p xs ≡ Some n → (x : X) × (slice_get xs n ≡ Some x) × (p x ≡ true)) → (x : X) × (slice_get (y ∷ xs) i ≡ Some x) × (p x ≡ true)
  at_later y xs i None f g rest = absurd (cc)
  at_later y xs i (Some n) f g rest =
      let last : suc n ≡ i = cc in
      let inner = rest n f in
      (inner.0, rw (sym last) inner.1, inner.2)

  at_by : (y : X) (xs : List X) (i : ℕ) (b : Bool) → p y ≡ b → position p (y ∷ xs) ≡ Some i
      → ((n : ℕ) → position p xs ≡ Some n → (x : X) × (slice_get xs n ≡ Some x) × (p x ≡ true)) → (x : X) × (slice_get (y ∷ xs) i ≡ Some x) × (p x ≡ true)
  at_by y xs i true f e rest =
      let first : position p (y ∷ xs) ≡ Some 0 = here y xs f in
      let zeroth : 0 ≡ i = cc in
      (y, rw (sym zeroth) refl, f)
  at_by y xs i false f e rest = at_later y xs i (position p xs) refl (sym (later y xs f) ∙ e) rest

  -- what stands at the first place
  pub at : (xs : List X) (i : ℕ) → position p xs ≡ Some i → (x : X) × (slice_get xs i ≡ Some x) × (p x ≡ true)
  at [] i e = absurd (cc)
  at (y ∷ xs) i e = at_by y xs i (p y) refl e (at xs)

  some_later : (y : X) (xs : List X) (z : X) (i : ℕ) (o : Option ℕ) → position p xs ≡ o → option_map suc o ≡ Some i → p y ≡ false
      → ((n : ℕ) → position p xs ≡ Some n → position p (xs ++ z ∷ []) ≡ Some n) → position p (y ∷ (xs ++ z ∷ [])) ≡ Some i
  some_later y xs z i None f g fails rest = absurd (cc)
  some_later y xs z i (Some n) f g fails rest = later y (xs ++ z ∷ []) fails ∙ ap (option_map suc) (rest n f) ∙ g

  some_by : (y : X) (xs : List X) (z : X) (i : ℕ) (b : Bool) → p y ≡ b → position p (y ∷ xs) ≡ Some i
      → ((n : ℕ) → position p xs ≡ Some n → position p (xs ++ z ∷ []) ≡ Some n) → position p (y ∷ (xs ++ z ∷ [])) ≡ Some i
  some_by y xs z i true f e rest = here y (xs ++ z ∷ []) f ∙ sym (here y xs f) ∙ e
  some_by y xs z i false f e rest = some_later y xs z i (position p xs) refl (sym (later y xs f) ∙ e) f rest

  -- one more item
  pub longer_some : (xs : List X) (z : X) (i : ℕ) → position p xs ≡ Some i → position p (xs ++ z ∷ []) ≡ Some i
  longer_some [] z i e = absurd (cc)
  longer_some (y ∷ xs) z i e = some_by y xs z i (p y) refl e (longer_some xs z)

  last_by : (z : X) (b : Bool) → p z ≡ b → position p (z ∷ []) ≡ cond b (Some 0) None
  last_by z true f = here z [] f
  last_by z false f = later z [] f

  step : (b : Bool) (n : ℕ) → option_map suc (cond b (Some n) None) ≡ cond b (Some (suc n)) None
  step true n = refl
  step false n = refl

  none_longer : (y : X) (xs : List X) (z : X) (b : Bool) → p y ≡ b → position p (y ∷ xs) ≡ None
      → (position p xs ≡ None → position p (xs ++ z ∷ []) ≡ cond (p z) (Some (length xs)) None) → position p (y ∷ (xs ++ z ∷ [])) ≡ cond (p z) (Some (suc (length xs))) None
  none_longer y xs z true f none rest = let first : position p (y ∷ xs) ≡ Some 0 = here y xs f in absurd (cc)
  none_longer y xs z false f none rest =
      later y (xs ++ z ∷ []) f ∙ ap (option_map suc) (rest (none_later (position p xs) (sym (later y xs f) ∙ none))) ∙ step (p z) (length xs)

  pub longer_none : (xs : List X) (z : X) → position p xs ≡ None → position p (xs ++ z ∷ []) ≡ cond (p z) (Some (length xs)) None
  longer_none [] z e = last_by z (p z) refl
  longer_none (y ∷ xs) z e = none_longer y xs z (p y) refl e (longer_none xs z)
