-- A list that is sorted and has the items that tie in their order is the one that the definition gives.
use Rattle.std.proofs.Common.{◌≡◌, ◌∙◌, ◌≤◌, ◌<◌, ℕ, suc, Bool, true, false, true≢false, not, ◌&&◌, cond, List, [], ◌∷◌, length, get_or, refl, sym, ap, subst, arith}
use Rattle.std.specs.Prelude.{⊤, filter}
use Rattle.std.specs.Cmp.{IsStrictWeakOrder}
use Rattle.std.specs.List.{AllByRecursion}
use Rattle.std.specs.List.Sorted.{IsSortedBy, IsStableBy, ties}
use Rattle.std.proofs.lemmas.List.Sorted.{sorted_far}
use Rattle.py_compare.specs.Sorting.{placed, sorted_by}

module _ {X : Type 0} (lt : X → X → Bool) where
  -- no item is less than x
  abbrev NoneBelow : X → List X → Type 0
  NoneBelow x [] = ⊤
  NoneBelow x (y ∷ ys) = (lt y x ≡ false) × NoneBelow x ys

  abbrev Ascends : List X → Type 0
  Ascends [] = ⊤
  Ascends (x ∷ xs) = NoneBelow x xs × Ascends xs

  none_below : (x : X) (xs : List X) → ((k : ℕ) → k < length xs → lt (get_or xs k x) x ≡ false) → NoneBelow x xs
  none_below x [] h = tt
  none_below x (y ∷ ys) h = (h 0 (omega arith), none_below x ys (λ k p. h (suc k) (omega arith)))

  ascends : (xs : List X) → ((i j : ℕ) (d : X) → i ≤ j → j < length xs → lt (get_or xs j d) (get_or xs i d) ≡ false) → Ascends xs
  ascends [] h = tt
  ascends (x ∷ xs) h = (none_below x xs (λ k p. h 0 (suc k) x (omega arith) (omega arith)), ascends xs (λ i j d p q. h (suc i) (suc j) d (omega arith) (omega arith)))

  module _ (o : IsStrictWeakOrder lt) where
    itself : (x : X) → lt x x ≡ false
    itself x = by (lt x x) refl
      where
        by : (b : Bool) → lt x x ≡ b → lt x x ≡ false
        by true e = o.one_way x x e
        by false e = e

    below_both : (x y : X) (ys : List X) → lt y x ≡ false → NoneBelow y ys → NoneBelow x ys
    below_both x y [] e h = tt
    below_both x y (z ∷ zs) e h = (o.chain z y x h.0 e, below_both x y zs e h.1)

    -- the definition's list ascends
    placed_below : (x y : X) (ys : List X) → lt x y ≡ false → NoneBelow y ys → NoneBelow y (placed lt x ys)
    placed_below x y [] e h = (e, tt)
    placed_below x y (z ∷ zs) e h = by (lt z x) (placed_below x y zs e h.1)
      where
        by : (b : Bool) → NoneBelow y (placed lt x zs) → NoneBelow y (cond b (z ∷ placed lt x zs) (x ∷ z ∷ zs))
        by true rest = (h.0, rest)
        by false rest = (e, h)

    placed_ascends : (x : X) (ys : List X) → Ascends ys → Ascends (placed lt x ys)
    placed_ascends x [] h = (tt, tt)
    placed_ascends x (y ∷ ys) h = by (lt y x) refl (placed_ascends x ys h.1)
      where
        by : (b : Bool) → lt y x ≡ b → Ascends (placed lt x ys) → Ascends (cond b (y ∷ placed lt x ys) (x ∷ y ∷ ys))
        by true e rest = (placed_below x y ys (o.one_way y x e) h.0, rest)
        by false e rest = ((e, below_both x y ys e h.0), h)

    sorted_ascends : (xs : List X) → Ascends (sorted_by lt xs)
    sorted_ascends [] = tt
    sorted_ascends (x ∷ xs) = placed_ascends x (sorted_by lt xs) (sorted_ascends xs)

    -- two that tie with a third tie with each other
    first_not : (a b : Bool) → not a && not b ≡ true → a ≡ false
    first_not true b e = absurd (true≢false (sym e))
    first_not false b e = refl

    second_not : (a b : Bool) → not a && not b ≡ true → b ≡ false
    second_not true b e = absurd (true≢false (sym e))
    second_not false true e = absurd (true≢false (sym e))
    second_not false false e = refl

    not_both : (a x y : X) → lt y x ≡ true → ties lt a x ≡ true → ties lt a y ≡ false
    not_both a x y less t = by (ties lt a y) refl
      where
        by : (b : Bool) → ties lt a y ≡ b → ties lt a y ≡ false
        by true u = absurd (true≢false (sym less ∙ o.chain y a x (second_not (lt a y) (lt y a) u) (first_not (lt a x) (lt x a) t)))
        by false u = u

    -- and it keeps the items that tie in their order
    filter-placed : (a x : X) (ys : List X) → filter (ties lt a) (placed lt x ys) ≡ filter (ties lt a) (x ∷ ys)
    filter-placed a x [] = refl
    filter-placed a x (y ∷ ys) = by (lt y x) refl (filter-placed a x ys)
      where
        swapped : (p q : Bool) (l : List X) → (p ≡ true → q ≡ false) → cond q (y ∷ cond p (x ∷ l) l) (cond p (x ∷ l) l) ≡ cond p (x ∷ cond q (y ∷ l) l) (cond q (y ∷ l) l)
        swapped true true l h = absurd (true≢false (h refl))
        swapped true false l h = refl
        swapped false q l h = refl

        by : (b : Bool) → lt y x ≡ b → filter (ties lt a) (placed lt x ys) ≡ filter (ties lt a) (x ∷ ys)
            → filter (ties lt a) (cond b (y ∷ placed lt x ys) (x ∷ y ∷ ys)) ≡ filter (ties lt a) (x ∷ y ∷ ys)
        by true e rest = ap (λ l. cond (ties lt a y) (y ∷ l) l) rest ∙ swapped (ties lt a x) (ties lt a y) (filter (ties lt a) ys) (not_both a x y e)
        by false e rest = refl

    filter-sorted_by : (a : X) (xs : List X) → filter (ties lt a) (sorted_by lt xs) ≡ filter (ties lt a) xs
    filter-sorted_by a [] = refl
    filter-sorted_by a (x ∷ xs) = filter-placed a x (sorted_by lt xs) ∙ ap (λ l. cond (ties lt a x) (x ∷ l) l) (filter-sorted_by a xs)

    tied : (a b : Bool) → a ≡ false → b ≡ false → not a && not b ≡ true
    tied true b p q = absurd (true≢false p)
    tied false true p q = absurd (true≢false q)
    tied false false p q = refl

    -- what is kept first stands in the list
    kept_first : (t : X → Bool) (x y : X) (l rest : List X) → NoneBelow x l → filter t l ≡ y ∷ rest → lt y x ≡ false
    kept_first t x y [] rest h e = absurd (cc)
    kept_first t x y (z ∷ zs) rest h e = by (t z) e (kept_first t x y zs rest h.1)
      where
        by : (b : Bool) → cond b (z ∷ filter t zs) (filter t zs) ≡ y ∷ rest → (filter t zs ≡ y ∷ rest → lt y x ≡ false) → lt y x ≡ false
        by true e' later = let same : z ≡ y = cc in subst (λ w. lt w x ≡ false) same h.0
        by false e' later = later e'

    kept : (t : X → Bool) (y : X) (ys : List X) → t y ≡ true → filter t (y ∷ ys) ≡ y ∷ filter t ys
    kept t y ys e = ap (λ b. cond b (y ∷ filter t ys) (filter t ys)) e

    rest_same : (b : Bool) (y : X) (l m : List X) → cond b (y ∷ l) l ≡ cond b (y ∷ m) m → l ≡ m
    rest_same true y l m e = cc
    rest_same false y l m e = e

    -- lists that ascend are one where each item's ties are
    one_list : (ys zs : List X) → Ascends ys → Ascends zs → ((x : X) → filter (ties lt x) ys ≡ filter (ties lt x) zs) → ys ≡ zs
    one_list [] [] p q h = refl
    one_list [] (z ∷ zs) p q h = let e = h z ∙ kept (ties lt z) z zs (tied (lt z z) (lt z z) (itself z) (itself z)) in absurd (cc)
    one_list (y ∷ ys) [] p q h = let e = sym (kept (ties lt y) y ys (tied (lt y y) (lt y y) (itself y) (itself y))) ∙ h y in absurd (cc)
    one_list (y ∷ ys) (z ∷ zs) p q h =
        let from_y : y ∷ filter (ties lt y) ys ≡ filter (ties lt y) (z ∷ zs) = sym (kept (ties lt y) y ys (tied (lt y y) (lt y y) (itself y) (itself y))) ∙ h y in
        let from_z : filter (ties lt z) (y ∷ ys) ≡ z ∷ filter (ties lt z) zs = h z ∙ kept (ties lt z) z zs (tied (lt z z) (lt z z) (itself z) (itself z)) in
        let y_not : lt y z ≡ false = kept_first (ties lt y) z y (z ∷ zs) (filter (ties lt y) ys) (itself z, q.0) (sym from_y) in
        let z_not : lt z y ≡ false = kept_first (ties lt z) y z (y ∷ ys) (filter (ties lt z) zs) (itself y, p.0) from_z in
        let both = from_y ∙ kept (ties lt y) z zs (tied (lt y z) (lt z y) y_not z_not) in
        let same : y ≡ z = cc in
        let rest : ys ≡ zs = one_list ys zs p.1 q.1 (λ x. rest_same (ties lt x y) y (filter (ties lt x) ys) (filter (ties lt x) zs) (h x ∙ ap (λ w. cond (ties lt x w) (w ∷ filter (ties lt x) zs) (filter (ties lt x) zs)) (sym same))) in
        cc

    pub stable_sort : (xs ys : List X) → IsSortedBy lt ys → IsStableBy lt xs ys → ys ≡ sorted_by lt xs
    stable_sort xs ys up stable = one_list ys (sorted_by lt xs) (ascends ys (sorted_far lt o ys up)) (sorted_ascends xs) (λ x. stable x ∙ sym (filter-sorted_by x xs))

-- two tests that answer alike on the items sort alike
module _ {X : Type 0} (f g : X → X → Bool) (P : X → Type 0) (alike : (x y : X) → P x → P y → f x y ≡ g x y) where
  placed_each : (x : X) (ys : List X) → P x → AllByRecursion P ys → AllByRecursion P (placed g x ys)
  placed_each x [] p h = (p, tt)
  placed_each x (y ∷ ys) p h = by (g y x) (placed_each x ys p h.1)
    where
      by : (b : Bool) → AllByRecursion P (placed g x ys) → AllByRecursion P (cond b (y ∷ placed g x ys) (x ∷ y ∷ ys))
      by true rest = (h.0, rest)
      by false rest = (p, h)

  sorted_each : (xs : List X) → AllByRecursion P xs → AllByRecursion P (sorted_by g xs)
  sorted_each [] h = tt
  sorted_each (x ∷ xs) h = placed_each x (sorted_by g xs) h.0 (sorted_each xs h.1)

  placed_alike : (x : X) (ys : List X) → P x → AllByRecursion P ys → placed f x ys ≡ placed g x ys
  placed_alike x [] p h = refl
  placed_alike x (y ∷ ys) p h = ap (λ b. cond b (y ∷ placed f x ys) (x ∷ y ∷ ys)) (alike y x h.0 p) ∙ ap (λ l. cond (g y x) (y ∷ l) (x ∷ y ∷ ys)) (placed_alike x ys p h.1)

  pub sorted_alike : (xs : List X) → AllByRecursion P xs → sorted_by f xs ≡ sorted_by g xs
  sorted_alike [] h = refl
  sorted_alike (x ∷ xs) h = ap (placed f x) (sorted_alike xs h.1) ∙ placed_alike x (sorted_by g xs) h.0 (sorted_each xs h.1)
