-- What stands in a list, by its place and by walking there; and lists in which each stands once.
use Rattle.std.proofs.Common.{◌≡◌, ◌<◌, ℕ, zero, suc, List, [], ◌∷◌, ◌++◌, length, get_or, refl, subst, inl, inr, ◌⊎◌, arith}
use Rattle.std.specs.Prelude.{Contains}
use Rattle.build_model.specs.Rules.{Among, here, there, Unique}
use Rattle.build_model.proofs.Lists.{among_right, among_either}

at_among : {A : Type 0} {x : A} (xs : List A) (k : ℕ) → k < length xs → get_or xs k x ≡ x → Among x xs
at_among [] k lt e = absurd (omega arith)
at_among {x = x} (y ∷ ys) zero lt e = subst (λ z. Among z (y ∷ ys)) e here
at_among (y ∷ ys) (suc k) lt e = there (at_among ys k (omega arith) e)

pub contains_among : {A : Type 0} {x : A} (xs : List A) → Contains xs x → Among x xs
contains_among xs h = at_among xs h.0 h.1 h.2

pub among_contains : {A : Type 0} {x : A} {xs : List A} → Among x xs → Contains xs x
among_contains here = (0, omega arith, refl)
among_contains (there m) = let h = among_contains m in (suc h.0, omega (arith, h.1), h.2)

pushed_out : {A : Type 0} {x y : A} {ys : List A} → (Among y ys → ⊥) → (Among x (y ∷ ys) → ⊥) →
    Among y ys ⊎ Among y (x ∷ []) → ⊥
pushed_out once out (inl m) = once m
pushed_out once out (inr here) = out here
pushed_out once out (inr (there m)) = elim m [ ]

-- one more at the end
pub unique_push : {A : Type 0} {x : A} (xs : List A) → Unique xs → (Among x xs → ⊥) → Unique (xs ++ x ∷ [])
unique_push [] once out = (λ m. elim m [ ], tt)
unique_push (y ∷ ys) once out =
    (λ m. pushed_out once.0 out (among_either ys m), unique_push ys once.1 (λ m. out (there m)))

among_more : {A : Type 0} {z : A} (x : A) (ys zs : List A) → Among z (ys ++ zs) → Among z (ys ++ x ∷ zs)
among_more x [] zs m = there m
among_more x (y ∷ ys) zs here = here
among_more x (y ∷ ys) zs (there m) = there (among_more x ys zs m)

less_out : {A : Type 0} {x y : A} (ys zs : List A) → (Among y (ys ++ x ∷ zs) → ⊥) → (Among x (ys ++ zs) → ⊥) →
    Among x (y ∷ (ys ++ zs)) → ⊥
less_out ys zs once out here = once (among_right ys here)
less_out ys zs once out (there m) = out m

-- one less in the middle: it doesn't stand among the others
pub unique_less : {A : Type 0} (x : A) (xs ys : List A) → Unique (xs ++ x ∷ ys) →
    Unique (xs ++ ys) × (Among x (xs ++ ys) → ⊥)
unique_less x [] ys once = (once.1, once.0)
unique_less x (y ∷ xs) ys once =
    let h = unique_less x xs ys once.1 in ((λ m. once.0 (among_more x xs ys m), h.0), λ m. less_out xs ys once.0 h.1 m)

-- what is another one and doesn't stand behind it doesn't stand there
pub not_among : {A : Type 0} {x y : A} {ys : List A} → (x ≡ y → ⊥) → (Among x ys → ⊥) → Among x (y ∷ ys) → ⊥
not_among other out here = other refl
not_among other out (there m) = out m
