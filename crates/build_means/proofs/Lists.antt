-- What stands in a list, what a test over it tells, and what decides that two lists are one.
use Rattle.std.proofs.Common.{◌≡◌, ℕ, zero, suc, Bool, true, false, cond, ◌||◌, ◌&&◌, List, [], ◌∷◌, get_or, map, Option, Some, None, refl, sym, subst, ap, inl, inr, ◌⊎◌, position}
use Rattle.std.specs.Prelude.{slice_get, nat_eq}
use Rattle.std.specs.List.{list_any, list_all}
use Rattle.std.specs.Option.{option_eq}
use Rattle.std.specs.Str.{bytes_eq}
use Rattle.std.specs.Bool.{Decides}
use Rattle.std.specs.Cmp.Lexicographic.{pointwise, pointwise_decides}
use Rattle.std.proofs.lemmas.Bool.Decides.{Decides-like, Decides-eqb}
use Rattle.std.proofs.lemmas.Slice.Eq.{bytes_eq-Decides}
use Rattle.std.proofs.lemmas.List.Quantifiers.{position-Some}
use Rattle.std.proofs.lemmas.Option.{slice_get-get_or}
use Rattle.build_model.specs.Rules.{Path, Among, here, there}
use Rattle.build_model.specs.Reach.{has}

pub true_false : {A : Type 0} → true ≡ false → A
true_false e = cc e

pub none_some : {A : Type 0} {B : Type 0} {x : A} → None ≡ Some x → B
none_some e = cc e

some_or : {A : Type 0} → A → Option A → A
some_or x None = x
some_or x (Some y) = y

pub some_same : {A : Type 0} {x y : A} → Some x ≡ Some y → x ≡ y
unfolding some_or
some_same {A} {x} e = ap (some_or x) e

-- what the parts of a test with `or` and with `and` tell
pub or_either : (b c : Bool) → (b || c) ≡ true → (b ≡ true) ⊎ (c ≡ true)
or_either true c e = inl refl
or_either false c e = inr e

pub or_first : (b c : Bool) → b ≡ true → (b || c) ≡ true
or_first true c e = refl
or_first false c e = true_false (sym e)

pub or_second : (b c : Bool) → c ≡ true → (b || c) ≡ true
or_second true c e = refl
or_second false c e = e

pub or_neither : (b c : Bool) → (b || c) ≡ false → (b ≡ false) × (c ≡ false)
or_neither true c e = true_false e
or_neither false c e = (refl, e)

pub and_both : (b c : Bool) → (b && c) ≡ true → (b ≡ true) × (c ≡ true)
and_both true c e = (refl, e)
and_both false c e = true_false (sym e)

any_by : {A : Type 0} {f : A → Bool} {x : A} {xs : List A} → (f x ≡ true) ⊎ ((y : A) × Among y xs × (f y ≡ true)) →
    (y : A) × Among y (x ∷ xs) × (f y ≡ true)
any_by {x = x} (inl e) = (x, here, e)
any_by (inr h) = (h.0, there h.1, h.2)

either_map : {A B C : Type 0} → (B → C) → A ⊎ B → A ⊎ C
either_map f (inl a) = inl a
either_map f (inr b) = inr (f b)

-- an item passes where any does
pub any_there : {A : Type 0} (f : A → Bool) (xs : List A) → list_any f xs ≡ true → (y : A) × Among y xs × (f y ≡ true)
any_there f [] e = true_false (sym e)
any_there f (x ∷ xs) e = any_by (either_map (any_there f xs) (or_either (f x) (list_any f xs) e))

-- and any passes where an item does
pub there_any : {A : Type 0} (f : A → Bool) {x : A} {xs : List A} → Among x xs → f x ≡ true → list_any f xs ≡ true
there_any f {xs = []} m e = elim m [ ]
there_any f {xs = y ∷ ys} here e = or_first (f y) (list_any f ys) e
there_any f {xs = y ∷ ys} (there m) e = or_second (f y) (list_any f ys) (there_any f m e)

-- none passes where any doesn't
pub none_passes : {A : Type 0} (f : A → Bool) {x : A} {xs : List A} → Among x xs → list_any f xs ≡ false → f x ≡ false
none_passes f {xs = []} m e = elim m [ ]
none_passes f {xs = y ∷ ys} here e = (or_neither (f y) (list_any f ys) e).0
none_passes f {xs = y ∷ ys} (there m) e = none_passes f m (or_neither (f y) (list_any f ys) e).1

-- each item passes where all do
pub all_there : {A : Type 0} (f : A → Bool) {x : A} {xs : List A} → Among x xs → list_all f xs ≡ true → f x ≡ true
all_there f {xs = []} m e = elim m [ ]
all_there f {xs = y ∷ ys} here e = (and_both (f y) (list_all f ys) e).0
all_there f {xs = y ∷ ys} (there m) e = all_there f m (and_both (f y) (list_all f ys) e).1

pub among_map : {A B : Type 0} (f : A → B) {y : B} (xs : List A) → Among y (map f xs) → (x : A) × Among x xs × (y ≡ f x)
among_map f [] m = elim m [ ]
among_map f (x ∷ xs) here = (x, here, refl)
among_map f (x ∷ xs) (there m) = let h = among_map f xs m in (h.0, there h.1, h.2)

pub map_among : {A B : Type 0} (f : A → B) {x : A} {xs : List A} → Among x xs → Among (f x) (map f xs)
map_among f here = here
map_among f (there m) = there (map_among f m)

-- what stands in a list has a place there, and what has a place stands there
pub place_of : {A : Type 0} {x : A} {xs : List A} → Among x xs → (i : ℕ) × (slice_get xs i ≡ Some x)
place_of here = (0, refl)
place_of (there m) = let h = place_of m in (suc h.0, h.1)

pub at_place : {A : Type 0} {x : A} (xs : List A) (i : ℕ) → slice_get xs i ≡ Some x → Among x xs
at_place [] i e = none_some e
at_place {x = x} (y ∷ ys) zero e = subst (λ z. Among z (y ∷ ys)) (some_same e) here
at_place (y ∷ ys) (suc i) e = there (at_place ys i e)

-- what stands at the first place at which a test passes
pub first_place : {A : Type 0} (f : A → Bool) (xs : List A) (i : ℕ) → position f xs ≡ Some i → (x : A) × (slice_get xs i ≡ Some x) × (f x ≡ true)
first_place f [] i e = none_some e
first_place f (x ∷ xs) i e =
    let h = position-Some f (x ∷ xs) i x e in (get_or (x ∷ xs) i x, slice_get-get_or (x ∷ xs) i x h.0, h.1)

has_step : {p q : Path} {qs : List Path} (b : Bool) → (b ≡ true → p ≡ q) → cond b true (has p qs) ≡ true →
    (has p qs ≡ true → Among p qs) → Among p (q ∷ qs)
has_step {p} {q} {qs} true same h k = subst (λ x. Among p (x ∷ qs)) (same refl) here
has_step false same h k = there (k h)

pub has_among : (p : Path) (ps : List Path) → has p ps ≡ true → Among p ps
has_among p [] h = true_false (sym h)
has_among p (q ∷ qs) h = has_step (bytes_eq p q) (bytes_eq-Decides p q).0 h (has_among p qs)

if_true : (b c : Bool) → b ≡ true → cond b true c ≡ true
if_true b c e = ap (λ x. cond x true c) e

if_other : (b : Bool) {c : Bool} → c ≡ true → cond b true c ≡ true
if_other true e = refl
if_other false e = e

pub among_has : {p : Path} {ps : List Path} → Among p ps → has p ps ≡ true
among_has {p} here = if_true (bytes_eq p p) _ ((bytes_eq-Decides p p).1 refl)
among_has {p} {ps = q ∷ qs} (there h) = if_other (bytes_eq p q) (among_has h)

-- what decides whether two lists, options, numbers are one
pub texts_decide : (xs ys : List (List ℕ)) → Decides (pointwise bytes_eq xs ys) (xs ≡ ys)
texts_decide xs ys = pointwise_decides bytes_eq-Decides xs ys

pub option_decides : {A : Type 0} {E : A → A → Bool} → ((a b : A) → Decides (E a b) (a ≡ b)) → (x y : Option A) → Decides (option_eq E x y) (x ≡ y)
option_decides d None None = (λ e. refl, λ e. refl)
option_decides d None (Some y) = (λ e. true_false (sym e), λ e. none_some e)
option_decides d (Some x) None = (λ e. true_false (sym e), λ e. none_some (sym e))
option_decides {E = E} d (Some x) (Some y) = Decides-like (E x y) (λ e. ap Some e) (λ e. some_same e) (d x y)

pub stamps_decide : (xs ys : List (Option ℕ)) → Decides (pointwise (option_eq nat_eq) xs ys) (xs ≡ ys)
stamps_decide xs ys = pointwise_decides (option_decides Decides-eqb) xs ys
