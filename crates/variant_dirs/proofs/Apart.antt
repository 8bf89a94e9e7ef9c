-- Directories that one path lies in.
use Rattle.std.proofs.Common.{◌≡◌, ◌∙◌, ℕ, List, [], ◌∷◌, ◌++◌, Bool, true, false, not, ◌&&◌, ◌||◌, ◌==◌, cond, length, take, drop, ap, sym, refl, subst}
use Rattle.std.specs.Prelude.{Some, nat_eq, if◌then◌else◌}
use Rattle.std.specs.Option.{option_to_list}
use Rattle.std.specs.List.{starts_with, list_all, list_any}
use Rattle.std.specs.Cmp.Lexicographic.{pointwise}
use Rattle.std.specs.Str.{bytes_eq}
use Rattle.std.proofs.lemmas.Bool.{and_parts, and_from, or_parts, or_from, not_from_false, not-true, both_ways, eqb-true, eq-eqb}
use Rattle.std.proofs.lemmas.Slice.Eq.{bytes_eq-Decides}
use Rattle.scons_base.specs.Normal.{slash, is_top, is_root}
use Rattle.scons_base.specs.Parts.{is_absolute, is_below, lies_in}
use Rattle.variant_dirs.specs.declared.variants.Variant.{Variant}
use Rattle.variant_dirs.specs.Variants.{variant_of, variants_with, meet, is_apart_from, AreApart, is_nested, stands}

-- a path goes on behind a text with a slash
abbrev goes_on : List ℕ → List ℕ → Bool
goes_on path dir = starts_with nat_eq path dir && is_absolute (drop (length dir) path)

abbrev below_at : Bool → Bool → List ℕ → List ℕ → Bool
below_at top root path dir =
    if top then not (is_absolute path || is_top path) else (if root then is_absolute path && not (is_root path) else goes_on path dir)

abbrev meet_at : Bool → Bool → Bool → Bool → List ℕ → List ℕ → Bool
meet_at ta ra tb rb a b = bytes_eq a b || (below_at tb rb a b || below_at ta ra b a)

top_is : (a : List ℕ) → is_top a ≡ true → a ≡ 46 ∷ []
top_is [] h = cc
top_is (x ∷ []) h = ap (λ y. y ∷ []) (eqb-true x 46 h)
top_is (x ∷ y ∷ ys) h = cc

root_is : (a : List ℕ) → is_root a ≡ true → a ≡ 47 ∷ []
root_is [] h = cc
root_is (x ∷ []) h = ap (λ y. y ∷ []) (eqb-true x 47 h)
root_is (x ∷ y ∷ ys) h = cc

-- a text that a path begins with, unless it is empty, is absolute where the path is
same_front : (path : List ℕ) (c : ℕ) (cs : List ℕ) → goes_on path (c ∷ cs) ≡ true → is_absolute path ≡ is_absolute (c ∷ cs)
same_front [] c cs h = cc
same_front (p ∷ path) c cs h =
    let starts = (and_parts _ _ h).0 in
    ap (λ x. x == slash) (sym (eqb-true c p (and_parts _ _ starts).0))

or_left : (x y : Bool) → x ≡ true → (x || y) ≡ true
or_left true y h = refl
or_left false y h = cc

or_right : (x y : Bool) → y ≡ true → (x || y) ≡ true
or_right true y h = refl
or_right false y h = h

or_second : (x y : Bool) → x ≡ false → (x || y) ≡ true → y ≡ true
or_second true y e h = cc
or_second false y e h = h

or_more : (x y z : Bool) → (x || y) ≡ true → (x || (y || z)) ≡ true
or_more true y z h = refl
or_more false true z h = refl
or_more false false z h = cc

heads : (r q e s t u v : Bool) → r ≡ true → q ≡ true → (e || ((s && t) || (u && v))) ≡ true
    → ((r && e) || (((q && s) && t) || ((r && u) && v))) ≡ true
heads true true e s t u v i j h = h
heads true false e s t u v i j h = cc
heads false q e s t u v i j h = cc

tails : (x s t : Bool) → ((x && s) && t) ≡ true → (s && t) ≡ true
tails true s t h = h
tails false s t h = cc

-- of two texts that a path goes on behind, one goes on behind the other, or they are the same
both_go_on : (path a b : List ℕ) → goes_on path a ≡ true → goes_on path b ≡ true → (bytes_eq a b || (goes_on a b || goes_on b a)) ≡ true
both_go_on path [] [] g h = refl
both_go_on [] [] (y ∷ b) g h = cc
both_go_on (p ∷ path) [] (y ∷ b) g h = or_right (goes_on [] (y ∷ b)) (goes_on (y ∷ b) []) (sym (same_front (p ∷ path) y b h) ∙ g)
both_go_on [] (x ∷ a) b g h = cc
both_go_on (p ∷ path) (x ∷ a) [] g h = or_left (goes_on (x ∷ a) []) (goes_on [] (x ∷ a)) (sym (same_front (p ∷ path) x a g) ∙ h)
both_go_on (p ∷ path) (x ∷ a) (y ∷ b) g h =
    let px = eqb-true x p (and_parts _ _ (and_parts _ _ g).0).0 in
    let py = eqb-true y p (and_parts _ _ (and_parts _ _ h).0).0 in
    heads (nat_eq x y) (nat_eq y x) _ _ _ _ _ (eq-eqb x y (px ∙ sym py)) (eq-eqb y x (py ∙ sym px))
    (both_go_on path a b
    (tails (nat_eq x p) (pointwise nat_eq a (take (length a) path)) (is_absolute (drop (length a) path)) g)
    (tails (nat_eq y p) (pointwise nat_eq b (take (length b) path)) (is_absolute (drop (length b) path)) h))

-- behind the root a text begins with a slash, or it is empty, and then the root goes on behind it
below_root : (path a b : List ℕ) → a ≡ 47 ∷ [] → is_root b ≡ false → is_absolute path ≡ true → goes_on path b ≡ true
    → (goes_on a b || (is_absolute b && not (is_root b))) ≡ true
below_root path a [] e n l h = or_left _ _ (subst (λ x. goes_on x [] ≡ true) (sym e) refl)
below_root path a (c ∷ b) e n l h =
    or_right (goes_on a (c ∷ b)) _ (and_from _ _ (sym (same_front path c b h) ∙ l) (not_from_false _ n))

-- a relative path begins with a relative text
below_top : (path b : List ℕ) → is_top b ≡ false → is_absolute path ≡ false → goes_on path b ≡ true → not (is_absolute b || is_top b) ≡ true
below_top path [] n l h = refl
below_top path (c ∷ b) n l h =
    not_from_false _ (or_from _ _ (sym (same_front path c b h) ∙ l) n)

relative : (path : List ℕ) → not (is_absolute path || is_top path) ≡ true → is_absolute path ≡ false
relative path h = (or_parts _ _ (not-true _ h)).0

absolute : (path : List ℕ) → (is_absolute path && not (is_root path)) ≡ true → is_absolute path ≡ true
absolute path h = (and_parts _ _ h).0

swapped : (x y z : Bool) → (x || (y || z)) ≡ true → (x || (z || y)) ≡ true
swapped true y z h = refl
swapped false true true h = refl
swapped false true false h = refl
swapped false false true h = refl
swapped false false false h = cc

same_text : (a b : List ℕ) → a ≡ b → bytes_eq a b ≡ true
same_text a b = (bytes_eq-Decides a b).1

-- two directories that a path is below are the same, or one is below the other
below_both : (ta ra tb rb : Bool) (path a b : List ℕ) → is_top a ≡ ta → is_root a ≡ ra → is_top b ≡ tb → is_root b ≡ rb
    → below_at ta ra path a ≡ true → below_at tb rb path b ≡ true → meet_at ta ra tb rb a b ≡ true
below_both true ra true rb path a b at ar bt br g h = or_left _ _ (same_text a b (top_is a at ∙ sym (top_is b bt)))
below_both true ra false true path a b at ar bt br g h = absurd (both_ways _ (relative path g) (absolute path h))
below_both true ra false false path a b at ar bt br g h = or_right _ _ (or_right _ _ (below_top path b bt (relative path g) h))
below_both false true true rb path a b at ar bt br g h = absurd (both_ways _ (relative path h) (absolute path g))
below_both false false true rb path a b at ar bt br g h = or_right _ _ (or_left _ _ (below_top path a at (relative path h) g))
below_both false true false true path a b at ar bt br g h = or_left _ _ (same_text a b (root_is a ar ∙ sym (root_is b br)))
below_both false true false false path a b at ar bt br g h = or_right _ _ (below_root path a b (root_is a ar) br (absolute path g) h)
below_both false false false true path a b at ar bt br g h =
    or_right (bytes_eq a b) _ (swapped false (goes_on b a) (is_absolute a && not (is_root a)) (below_root path b a (root_is b br) ar (absolute path h) g))
below_both false false false false path a b at ar bt br g h = both_go_on path a b g h

-- two directories that a path lies in
pub lies_in_both : (path a b : List ℕ) → lies_in path a ≡ true → lies_in path b ≡ true → meet a b ≡ true
lies_in_both path a b g h = first (bytes_eq path a) refl
  where
    second : (e : Bool) → bytes_eq path b ≡ e → bytes_eq path a ≡ false → meet a b ≡ true
    second true eb ea =
        let below : is_below b a ≡ true = subst (λ x. is_below x a ≡ true) ((bytes_eq-Decides path b).0 eb) (or_second (bytes_eq path a) (is_below path a) ea g) in
        or_right (bytes_eq a b) (is_below a b || is_below b a) (or_right (is_below a b) (is_below b a) below)
    second false eb ea =
        below_both (is_top a) (is_root a) (is_top b) (is_root b) path a b refl refl refl refl
        (or_second (bytes_eq path a) (is_below path a) ea g) (or_second (bytes_eq path b) (is_below path b) eb h)

    first : (e : Bool) → bytes_eq path a ≡ e → meet a b ≡ true
    first true ea =
        or_more (bytes_eq a b) (is_below a b) (is_below b a) (subst (λ x. lies_in x b ≡ true) ((bytes_eq-Decides path a).0 ea) h)
    first false ea = second (bytes_eq path b) refl ea

-- a path lies in no directory that is apart from one that it lies in
lies_in_no_other : (variants : List Variant) (path dir : List ℕ) → lies_in path dir ≡ true → list_all (λ w. not (meet dir w.dir)) variants ≡ true
    → variants_with variants path ≡ []
lies_in_no_other [] path dir h apart = refl
lies_in_no_other (v ∷ variants) path dir h apart =
    let parts = and_parts (not (meet dir v.dir)) (list_all (λ w. not (meet dir w.dir)) variants) apart in by (lies_in path v.dir) refl (lies_in_no_other variants path dir h parts.1)
  where
    by : (b : Bool) → lies_in path v.dir ≡ b → variants_with variants path ≡ []
        → cond b (v ∷ variants_with variants path) (variants_with variants path) ≡ []
    by true e rest =
        absurd (both_ways (meet dir v.dir) (not-true (meet dir v.dir) (and_parts (not (meet dir v.dir)) (list_all (λ w. not (meet dir w.dir)) variants) apart).0) (lies_in_both path dir v.dir h e))
    by false e rest = rest

-- the first variant directory that a path lies in is the only one
pub lies_in_one : (variants : List Variant) (path : List ℕ) → AreApart variants → option_to_list (variant_of variants path) ≡ variants_with variants path
lies_in_one [] path apart = refl
lies_in_one (v ∷ variants) path apart = by (lies_in path v.dir) refl (lies_in_one variants path apart.1)
  where
    by : (b : Bool) → lies_in path v.dir ≡ b → option_to_list (variant_of variants path) ≡ variants_with variants path
        → option_to_list (cond b (Some v) (variant_of variants path)) ≡ cond b (v ∷ variants_with variants path) (variants_with variants path)
    by true e rest = ap (λ l. v ∷ l) (sym (lies_in_no_other variants path v.dir e apart.0))
    by false e rest = rest

-- what is neither nested nor there is apart from all
apart_from_one : (x y z s : Bool) → (x || (y || z)) ≡ false → s ≡ false → not (s || (z || y)) ≡ true
apart_from_one x y z true n e = cc
apart_from_one true y z false n e = cc
apart_from_one false true z false n e = cc
apart_from_one false false true false n e = cc
apart_from_one false false false false n e = refl

not_any : (variants : List Variant) (dir source : List ℕ)
    → list_any (λ v. lies_in source v.dir || (is_below dir v.dir || is_below v.dir dir)) variants ≡ false → stands variants dir ≡ false
    → list_all (λ v. not (meet v.dir dir)) variants ≡ true
not_any [] dir source n s = refl
not_any (v ∷ variants) dir source n s =
    let here = or_parts _ _ n in let there = or_parts _ _ s in
    and_from _ _ (apart_from_one (lies_in source v.dir) (is_below dir v.dir) (is_below v.dir dir) (bytes_eq v.dir dir) here.0 there.0) (not_any variants dir source here.1 there.1)

pub is_apart : (variants : List Variant) (dir source : List ℕ) → is_nested variants dir source ≡ false → stands variants dir ≡ false
    → is_apart_from variants dir ≡ true
is_apart variants dir source n s = not_any variants dir source (or_parts _ _ n).1 s

all_and_last : (variants : List Variant) (p : Variant → Bool) (x : Variant) → list_all p variants ≡ true → p x ≡ true → list_all p (variants ++ x ∷ []) ≡ true
all_and_last [] p x h e = and_from _ _ e refl
all_and_last (v ∷ variants) p x h e = and_from _ _ (and_parts _ _ h).0 (all_and_last variants p x (and_parts _ _ h).1 e)

pub stay_apart : (variants : List Variant) (x : Variant) → AreApart variants → is_apart_from variants x.dir ≡ true → AreApart (variants ++ x ∷ [])
stay_apart [] x apart h = (refl, tt)
stay_apart (v ∷ variants) x apart h =
    (all_and_last variants (λ w. not (meet v.dir w.dir)) x apart.0 (and_parts _ _ h).0, stay_apart variants x apart.1 (and_parts _ _ h).1)
