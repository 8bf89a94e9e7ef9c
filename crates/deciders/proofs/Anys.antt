-- What holds of some item of a list, by its first item.
use Rattle.std.proofs.Common.{◌≡◌, zero, suc, List, [], ◌∷◌, false, refl, ap, subst, sym, ◌∙◌, inl, inr, arith}
use Rattle.std.specs.Prelude.{Any, ◌⊎◌, ◌↔◌, IsTrue}
use Rattle.std.specs.List.{zip}
use Rattle.deciders.specs.declared.recorded.Dep.{Dep}
use Rattle.deciders.specs.Changes.{DiffersInBoth}

any_here : {A : Type 0} (P : A → Type 0) (x : A) (xs : List A) → P x → Any P (x ∷ xs)
any_here P x xs p = (zero, x, omega arith, refl, p)

any_behind : {A : Type 0} (P : A → Type 0) (x : A) (xs : List A) → Any P xs → Any P (x ∷ xs)
any_behind P x xs (k, y, inside, is, p) = (suc k, y, omega arith, is, p)

any_not_here : {A : Type 0} (P : A → Type 0) (x : A) (xs : List A) → (P x → ⊥) → Any P (x ∷ xs) → Any P xs
any_not_here P x xs not (zero, y, inside, is, p) = absurd (not (subst P (sym is) p))
any_not_here P x xs not (suc k, y, inside, is, p) = (k, y, omega arith, is, p)

pub any_none : {A : Type 0} (P : A → Type 0) → Any P [] → ⊥
any_none P (k, y, inside, is, p) = omega arith

abbrev Differ : List Dep → List Dep → Type 0
Differ old now = Any DiffersInBoth (zip old now)

pub differ_here : (x y : Dep) (xs ys : List Dep) → DiffersInBoth (x, y) → Differ (x ∷ xs) (y ∷ ys)
differ_here x y xs ys p = any_here DiffersInBoth (x, y) (zip xs ys) p

pub differ_behind : (x y : Dep) (xs ys : List Dep) → (DiffersInBoth (x, y) → ⊥) → Differ xs ys ↔ Differ (x ∷ xs) (y ∷ ys)
differ_behind x y xs ys not = (any_behind DiffersInBoth (x, y) (zip xs ys), any_not_here DiffersInBoth (x, y) (zip xs ys) not)

pub differs_now : (xs ys : List Dep) (x y : Dep) (xs' ys' : List Dep) → xs ≡ x ∷ xs' → ys ≡ y ∷ ys' → DiffersInBoth (x, y) → Differ xs ys
differs_now xs ys x y xs' ys' ex ey p =
    subst (λ (first : List Dep). Differ first ys) (sym ex) (subst (λ (second : List Dep). Differ (x ∷ xs') second) (sym ey) (differ_here x y xs' ys' p))

pub differs_later : (xs ys : List Dep) (x y : Dep) (xs' ys' : List Dep) → xs ≡ x ∷ xs' → ys ≡ y ∷ ys' → (DiffersInBoth (x, y) → ⊥) → Differ xs' ys' ↔ Differ xs ys
differs_later xs ys x y xs' ys' ex ey not =
    subst (λ (first : List Dep). Differ xs' ys' ↔ Differ first ys) (sym ex) (subst (λ (second : List Dep). Differ xs' ys' ↔ Differ (x ∷ xs') second) (sym ey) (differ_behind x y xs' ys' not))

zip_nothing : (xs : List Dep) → zip {X = Dep} xs [] ≡ []
zip_nothing [] = refl
zip_nothing (x ∷ xs) = refl

pub none_left : (xs ys : List Dep) → (xs ≡ []) ⊎ (ys ≡ []) → Differ xs ys → ⊥
none_left xs ys none any =
    elim none [
      | inl e ↦ any_none DiffersInBoth (subst (λ (first : List Dep). Differ first ys) e any)
      | inr e ↦ any_none DiffersInBoth (subst (Any DiffersInBoth) (ap (zip xs) e ∙ zip_nothing xs) any)
    ]

pub never : IsTrue false → ⊥
never e = cc

-- two lists are one where their first items and what stands behind are
pub same_first : (xs ys : List Dep) (x y : Dep) (xs' ys' : List Dep) → xs ≡ x ∷ xs' → ys ≡ y ∷ ys' → x ≡ y → (xs' ≡ ys') ↔ (xs ≡ ys)
same_first xs ys x y xs' ys' ex ey same = (λ e. cc, λ e. cc)

pub first_is : (xs ys : List Dep) (x y : Dep) (xs' ys' : List Dep) → xs ≡ x ∷ xs' → ys ≡ y ∷ ys' → xs ≡ ys → x ≡ y
first_is xs ys x y xs' ys' ex ey e = cc

pub both_end : (xs ys : List Dep) → xs ≡ [] → ys ≡ [] → xs ≡ ys
both_end xs ys ex ey = cc
