-- The first item of which something holds, and that there is one.
use Rattle.std.proofs.Common.{◌≡◌, ℕ, zero, suc, ◌+◌, List, [], ◌∷◌, Some, refl, sym, subst, ap, ◌∙◌, inl, inr, ◌⊎◌, arith, Any, zip}
use Rattle.std.specs.Prelude.{slice_get}
use Rattle.deciders.specs.declared.recorded.Dep.{Dep}
use Rattle.build_means.proofs.Lists.{none_some, some_same}
use Rattle.explain_report.specs.Reasons.{Somewhere, FirstFrom}

-- one step of a search that found nothing at the first item
pub goes_on : {A : Type 0} (P : A → Type 0) (start : ℕ) (xs : List A) (x : A) (rest : List A) → xs ≡ x ∷ rest → (P x → ⊥) →
    (place : ℕ) → FirstFrom (start + 1) P rest place → FirstFrom start P xs place
goes_on P start xs x rest e not place f =
    let next : start + 1 ≡ suc start = omega arith in
    subst (λ l. FirstFrom start P l place) (sym e) (inr (not, subst (λ k. FirstFrom k P rest place) next f))

behind_first : {A : Type 0} (P : A → Type 0) (x : A) (rest : List A) → (P x → ⊥) → Somewhere P (x ∷ rest) → Somewhere P rest
behind_first P x rest not (inl p) = absurd (not p)
behind_first P x rest not (inr s) = s

pub is_behind : {A : Type 0} (P : A → Type 0) (xs : List A) (x : A) (rest : List A) → xs ≡ x ∷ rest → (P x → ⊥) →
    Somewhere P xs → Somewhere P rest
is_behind P xs x rest e not s = behind_first P x rest not (subst (Somewhere P) e s)

zip_nothing : (xs : List Dep) → zip {X = Dep} xs [] ≡ []
zip_nothing [] = refl
zip_nothing (x ∷ xs) = refl

-- two lists of which one has ended have no pair
pub none_left : (P : Dep × Dep → Type 0) (xs ys : List Dep) → (xs ≡ []) ⊎ (ys ≡ []) → Somewhere P (zip xs ys) → ⊥
none_left P xs ys (inl e) s = subst (λ l. Somewhere P (zip l ys)) e s
none_left P xs ys (inr e) s = subst (Somewhere P) (ap (zip xs) e ∙ zip_nothing xs) s

-- what is found at a place stands there
pub found_there : {A : Type 0} (P : A → Type 0) (xs : List A) (place : ℕ) (x : A) → slice_get xs place ≡ Some x → P x → Somewhere P xs
found_there P [] place x e p = none_some e
found_there P (y ∷ ys) zero x e p = inl (subst P (sym (some_same e)) p)
found_there P (y ∷ ys) (suc place) x e p = inr (found_there P ys place x e p)

-- where there is a first there is one
pub first_some : {A : Type 0} (P : A → Type 0) (start : ℕ) (xs : List A) (place : ℕ) → FirstFrom start P xs place → Somewhere P xs
first_some P start [] place f = absurd f
first_some P start (x ∷ xs) place (inl h) = inl h.0
first_some P start (x ∷ xs) place (inr h) = inr (first_some P (suc start) xs place h.1)

-- and where there is one there can't be no first
pub some_first : {A : Type 0} (P : A → Type 0) (start : ℕ) (xs : List A) → Somewhere P xs → ((place : ℕ) → FirstFrom start P xs place → ⊥) → ⊥
some_first P start [] s none = s
some_first P start (x ∷ xs) (inl p) none = none start (inl (p, refl))
some_first P start (x ∷ xs) (inr s) none =
    some_first P (suc start) xs s (λ place f. none place (inr ((λ p. none start (inl (p, refl))), f)))

pub any_somewhere : {A : Type 0} (P : A → Type 0) (xs : List A) → Any P xs → Somewhere P xs
any_somewhere P [] (k, y, inside, is, p) = omega arith
any_somewhere P (x ∷ xs) (zero, y, inside, is, p) = inl (subst P (sym is) p)
any_somewhere P (x ∷ xs) (suc k, y, inside, is, p) = inr (any_somewhere P xs (k, y, omega arith, is, p))

any_behind : {A : Type 0} (P : A → Type 0) (x : A) (xs : List A) → Any P xs → Any P (x ∷ xs)
any_behind P x xs (k, y, inside, is, p) = (suc k, y, omega arith, is, p)

pub somewhere_any : {A : Type 0} (P : A → Type 0) (xs : List A) → Somewhere P xs → Any P xs
somewhere_any P [] s = absurd s
somewhere_any P (x ∷ xs) (inl p) = (zero, x, omega arith, refl, p)
somewhere_any P (x ∷ xs) (inr s) = any_behind P x xs (somewhere_any P xs s)
