-- What stands in a list.
use Rattle.std.proofs.Common.{◌≡◌, Bool, true, false, if◌then◌else◌, List, [], ◌∷◌, ◌++◌, Option, Some, None, bytes_eq, map, refl, sym, subst, ap, ◌∙◌, inl, inr, ◌⊎◌}
use Rattle.std.proofs.lemmas.Slice.Eq.{bytes_eq-Decides}
use Rattle.build_model.specs.Rules.{Path, Among, here, there}
use Rattle.build_model.specs.Reach.{has, unseen}

pub true_false : {A : Type 0} → true ≡ false → A
true_false e = cc e

pub none_some : {A : Type 0} {B : Type 0} {x : A} → None ≡ Some x → B
none_some e = cc e

some_or : {A : Type 0} → A → Option A → A
some_or x None = x
some_or x (Some y) = y

pub some_same : {A : Type 0} {x y : A} → Some x ≡ Some y → x ≡ y
unfolding some_or
some_same {A} {x} e = ap (some_or x) e

pub nil_cons : {A : Type 0} {B : Type 0} {x : A} {xs : List A} → [] ≡ x ∷ xs → B
nil_cons e = cc e

head_or : {A : Type 0} → A → List A → A
head_or x [] = x
head_or x (y ∷ ys) = y

tail_of : {A : Type 0} → List A → List A
tail_of [] = []
tail_of (x ∷ xs) = xs

pub same_head : {A : Type 0} {x y : A} {xs ys : List A} → x ∷ xs ≡ y ∷ ys → x ≡ y
unfolding head_or
same_head {A} {x} e = ap (head_or x) e

pub same_tail : {A : Type 0} {x y : A} {xs ys : List A} → x ∷ xs ≡ y ∷ ys → xs ≡ ys
unfolding tail_of
same_tail e = ap tail_of e

pub among_left : {A : Type 0} {x : A} {xs : List A} (ys : List A) → Among x xs → Among x (xs ++ ys)
among_left ys here = here
among_left ys (there h) = there (among_left ys h)

pub among_right : {A : Type 0} {x : A} (xs : List A) {ys : List A} → Among x ys → Among x (xs ++ ys)
among_right [] h = h
among_right (y ∷ xs) h = there (among_right xs h)

over_there : {A : Type 0} {x y : A} {xs ys : List A} → Among x xs ⊎ Among x ys → Among x (y ∷ xs) ⊎ Among x ys
over_there (inl h) = inl (there h)
over_there (inr h) = inr h

pub among_either : {A : Type 0} {x : A} (xs : List A) {ys : List A} → Among x (xs ++ ys) → Among x xs ⊎ Among x ys
among_either [] h = inr h
among_either (y ∷ xs) here = inl here
among_either (y ∷ xs) (there h) = over_there (among_either xs h)

pub among_same : {A : Type 0} {x : A} {xs ys : List A} → xs ≡ ys → Among x xs → Among x ys
among_same {A} {x} e h = subst (λ l. Among x l) e h

has_step : {p q : Path} {qs : List Path} (b : Bool) → (b ≡ true → p ≡ q) → (if b then true else has p qs) ≡ true →
    (has p qs ≡ true → Among p qs) → Among p (q ∷ qs)
has_step {p} {q} {qs} true same h k = subst (λ x. Among p (x ∷ qs)) (same refl) here
has_step false same h k = there (k h)

pub has_among : (p : Path) (ps : List Path) → has p ps ≡ true → Among p ps
has_among p [] h = true_false (sym h)
has_among p (q ∷ qs) h = has_step (bytes_eq p q) (bytes_eq-Decides p q).0 h (has_among p qs)

if_true : (b c : Bool) → b ≡ true → (if b then true else c) ≡ true
if_true b c e = ap (λ x. if x then true else c) e

if_other : (b : Bool) {c : Bool} → c ≡ true → (if b then true else c) ≡ true
if_other true e = refl
if_other false e = e

pub among_has : {p : Path} {ps : List Path} → Among p ps → has p ps ≡ true
among_has {p} here = if_true (bytes_eq p p) _ ((bytes_eq-Decides p p).1 refl)
among_has {p} {ps = q ∷ qs} (there h) = if_other (bytes_eq p q) (among_has h)

pub not_has : {p : Path} {ps : List Path} → has p ps ≡ false → Among p ps → ⊥
not_has e h = true_false (sym (among_has h) ∙ e)

unseen_step : {q p : Path} {seen ps : List Path} (b : Bool) → has p seen ≡ b →
    Among q (if b then unseen seen ps else p ∷ unseen (p ∷ seen) ps) →
    (Among q (unseen seen ps) → Among q ps × (Among q seen → ⊥)) →
    (Among q (unseen (p ∷ seen) ps) → Among q ps × (Among q (p ∷ seen) → ⊥)) →
    Among q (p ∷ ps) × (Among q seen → ⊥)
unseen_step true e h f g = let x = f h in (there x.0, x.1)
unseen_step false e here f g = (here, not_has e)
unseen_step false e (there h) f g = let x = g h in (there x.0, λ s. x.1 (there s))

-- what is unseen stands in the list and wasn't seen
pub unseen_in : {q : Path} (seen ps : List Path) → Among q (unseen seen ps) → Among q ps × (Among q seen → ⊥)
unseen_in seen [] h = elim h [ ]
unseen_in seen (p ∷ ps) h = unseen_step (has p seen) refl h (unseen_in seen ps) (unseen_in (p ∷ seen) ps)

first_seen : {p : Path} {seen : List Path} (ps : List Path) (b : Bool) → has p seen ≡ b →
    Among p seen ⊎ Among p (if b then unseen seen ps else p ∷ unseen (p ∷ seen) ps)
first_seen {p} {seen} ps true e = inl (has_among p seen e)
first_seen ps false e = inr here

later_seen : {q p : Path} {seen : List Path} (ps : List Path) (b : Bool) → Among q seen ⊎ Among q (unseen seen ps) →
    Among q (p ∷ seen) ⊎ Among q (unseen (p ∷ seen) ps) →
    Among q seen ⊎ Among q (if b then unseen seen ps else p ∷ unseen (p ∷ seen) ps)
later_seen ps true f g = f
later_seen ps false f (inl here) = inr here
later_seen ps false f (inl (there s)) = inl s
later_seen ps false f (inr u) = inr (there u)

-- what stands in the list was seen or is unseen
pub unseen_all : {q : Path} (seen ps : List Path) → Among q ps → Among q seen ⊎ Among q (unseen seen ps)
unseen_all seen [] h = elim h [ ]
unseen_all seen (p ∷ ps) here = first_seen ps (has p seen) refl
unseen_all seen (p ∷ ps) (there h) = later_seen ps (has p seen) (unseen_all seen ps h) (unseen_all (p ∷ seen) ps h)

pub same_map : {A B : Type 0} (f g : A → B) (xs : List A) → ((x : A) → Among x xs → f x ≡ g x) → map f xs ≡ map g xs
same_map f g [] h = refl
same_map f g (x ∷ xs) h = ap (λ y. y ∷ map f xs) (h x here) ∙ ap (λ l. g x ∷ l) (same_map f g xs (λ y m. h y (there m)))
