-- What holds of some item of a list: of one at a place, and of one that stands there.
use Rattle.std.proofs.Common.{◌≡◌, ◌<◌, zero, suc, ℕ, List, [], ◌∷◌, map, length, get_or, refl, sym, subst, arith, inl, inr, ⊎_elim}
use Rattle.std.specs.Prelude.{Any, ◌⊎◌}
use Rattle.build_model.specs.Rules.{Among, here, there}

none_among : {A B : Type 0} {x : A} → Among x [] → B
none_among m = elim m [ ]

head_or_later : {A : Type 0} {x y : A} {xs : List A} → Among x (y ∷ xs) → (x ≡ y) ⊎ Among x xs
head_or_later here = inl refl
head_or_later (there m) = inr m

at_place : {A : Type 0} (xs : List A) (i : ℕ) (d : A) → i < length xs → Among (get_or xs i d) xs
at_place [] i d below = absurd (omega arith)
at_place (x ∷ xs) zero d below = here
at_place (x ∷ xs) (suc i) d below = there (at_place xs i d (omega arith))

-- what holds somewhere holds of one that stands there
pub some_among : {A : Type 0} (P : A → Type 0) (xs : List A) → Any P xs → (x : A) × (Among x xs × P x)
some_among {A} P xs (k, x, inside, is, p) = (x, (subst (λ (y : A). Among y xs) is (at_place xs k x inside), p))

any_here : {A : Type 0} (P : A → Type 0) (x : A) (xs : List A) → P x → Any P (x ∷ xs)
any_here P x xs p = (zero, x, omega arith, refl, p)

any_behind : {A : Type 0} (P : A → Type 0) (x : A) (xs : List A) → Any P xs → Any P (x ∷ xs)
any_behind P x xs (k, y, inside, is, p) = (suc k, y, omega arith, is, p)

-- and the other way round
pub among_some : {A : Type 0} (P : A → Type 0) (x : A) (xs : List A) → Among x xs → P x → Any P xs
among_some P x [] m p = none_among m
among_some P x (y ∷ xs) m p =
    ⊎_elim (λ e. any_here P y xs (subst P e p)) (λ later. any_behind P y xs (among_some P x xs later p)) (head_or_later m)

pub among_map : {A B : Type 0} (f : A → B) (x : A) (xs : List A) → Among x xs → Among (f x) (map f xs)
among_map f x [] m = none_among m
among_map {A} f x (y ∷ xs) m =
    ⊎_elim (λ e. subst (λ (z : A). Among (f z) (map f (y ∷ xs))) (sym e) here) (λ later. there (among_map f x xs later)) (head_or_later m)

-- what holds of one that stands in a list of values holds of some item's value
pub among_values : {A B : Type 0} (f : A → B) (P : B → Type 0) (y : B) (xs : List A) → Among y (map f xs) → P y → Any (λ x. P (f x)) xs
among_values f P y [] m p = none_among m
among_values f P y (x ∷ xs) m p =
    ⊎_elim (λ e. any_here (λ z. P (f z)) x xs (subst P e p)) (λ later. any_behind (λ z. P (f z)) x xs (among_values f P y xs later p)) (head_or_later m)
