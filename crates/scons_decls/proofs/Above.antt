-- The directories that a path lies in: itself, and those that its directory lies in.
use Rattle.std.proofs.Common.{arith, ◌≡◌, ◌==◌, ◌&&◌, ◌||◌, not, ap, sym, subst, refl, ◌∙◌, ℕ, zero, suc, ◌+◌, ◌-◌, ◌<◌, ◌≤◌, List, [], ◌∷◌, ◌++◌, length, take, drop, get_or, Bool, true, false, true≢false, append_assoc, length-append, ◌⊎◌, inl, inr, eq-eqb}
use Rattle.std.specs.Prelude.{if◌then◌else◌, nat_eq}
use Rattle.std.specs.List.{list_all, list_any, starts_with, suffix_len}
use Rattle.std.specs.Str.{bytes_eq}
use Rattle.std.proofs.lemmas.Bool.{cases_Bool, or_cases, or_right, or_parts, and_parts, false_from_ne_true, eqb-true, not-true}
use Rattle.std.proofs.lemmas.Bool.Decides.{Decides-eqb}
use Rattle.std.proofs.lemmas.List.Sums.{suffix_len_is}
use Rattle.std.proofs.lemmas.Slice.Eq.{starts_is, bytes_eq-Decides}
use Rattle.std.proofs.Math.Seq.{get_or-append_seam, get_or-append_right}
use Rattle.scons_base.specs.Normal.{slash, dot, is_top, is_root}
use Rattle.scons_base.specs.Parts.{is_absolute, behind_last, dir_to, dir_of, is_below, lies_in}
use Rattle.scons_decls.specs.Targets.{is_end}

both_ways : (a b : Bool) → (a ≡ true → b ≡ true) → (b ≡ true → a ≡ true) → a ≡ b
both_ways true b f g = sym (f refl)
both_ways false true f g = g refl
both_ways false false f g = refl

and_false : (b : Bool) → (b && false) ≡ false
and_false true = refl
and_false false = refl

top_is : (p : List ℕ) → is_top p ≡ true → p ≡ dot ∷ []
top_is [] h = absurd (true≢false (sym h))
top_is (a ∷ []) h = ap (λ c. c ∷ []) (eqb-true a dot h)
top_is (a ∷ b ∷ rest) h = absurd (true≢false (sym h))

root_is : (p : List ℕ) → is_root p ≡ true → p ≡ slash ∷ []
root_is [] h = absurd (true≢false (sym h))
root_is (a ∷ []) h = ap (λ c. c ∷ []) (eqb-true a slash h)
root_is (a ∷ b ∷ rest) h = absurd (true≢false (sym h))

-- a path that goes on behind another one with a slash
abbrev goes_on : List ℕ → List ℕ → Bool
goes_on d p = starts_with nat_eq d p && is_absolute (drop (length p) d)

first_slash : (xs : List ℕ) → is_absolute xs ≡ true → (rest : List ℕ) × (xs ≡ slash ∷ rest)
first_slash [] h = absurd (true≢false (sym h))
first_slash (b ∷ bs) h = (bs, ap (λ c. c ∷ bs) (eqb-true b slash h))

goes : (d p : List ℕ) → goes_on d p ≡ true → (rest : List ℕ) × (d ≡ p ++ slash ∷ rest)
goes d p h =
    let k = and_parts _ _ h in
    let e = first_slash (drop (length p) d) k.1 in
    (e.0, (starts_is Decides-eqb d p _ refl).0 k.0 ∙ ap (λ l. p ++ l) e.1)

drop_front : (p ys : List ℕ) → drop (length p) (p ++ ys) ≡ ys
drop_front [] ys = refl
drop_front (x ∷ p) ys = drop_front p ys

goes_back : (d p rest : List ℕ) → d ≡ p ++ slash ∷ rest → goes_on d p ≡ true
goes_back d p rest e =
    let a : starts_with nat_eq d p ≡ true = (starts_is Decides-eqb d p _ refl).1 (slash ∷ rest) e in
    let b : drop (length p) d ≡ slash ∷ rest = ap (drop (length p)) e ∙ drop_front p (slash ∷ rest) in
    rw (a, b) refl

other : (d p : List ℕ) → is_top p ≡ false → is_root p ≡ false → is_below d p ≡ goes_on d p
other d p t r = rw (t, r) refl

-- no slash
abbrev is_plain : List ℕ → Bool
is_plain bytes = list_all (λ b. not (b == slash)) bytes

plain_at : (xs : List ℕ) (k : ℕ) → is_plain xs ≡ true → k < length xs → not (get_or xs k 0 == slash) ≡ true
plain_at [] k h l = absurd (omega arith)
plain_at (x ∷ xs) zero h l = (and_parts _ _ h).0
plain_at (x ∷ xs) (suc k) h l = plain_at xs k (and_parts _ _ h).1 (omega arith)

slash_in : (front rest : List ℕ) → is_plain (front ++ slash ∷ rest) ≡ true → ⊥
slash_in [] rest h = true≢false (sym h)
slash_in (x ∷ front) rest h = slash_in front rest (and_parts _ _ h).1

plain_from : (d : List ℕ) → is_plain d ≡ true → behind_last slash d ≡ 0
plain_from d h =
    let e : suffix_len (λ b. not (b == slash)) d ≡ length d - 0 = suffix_len_is (λ b. not (b == slash)) d 0 0 (omega arith) (λ k low l. plain_at d k h l) (λ l. absurd (omega arith)) in
    omega arith

slash_last : (front name : List ℕ) → is_plain name ≡ true → behind_last slash (front ++ slash ∷ name) ≡ length front + 1
slash_last front name h =
    let d = front ++ slash ∷ name in
    let count : length d ≡ length front + suc (length name) = length-append front (slash ∷ name) in
    let behind : (k : ℕ) → length front + 1 ≤ k → k < length d → not (get_or d k 0 == slash) ≡ true =
    λ k low l. seen k low l in
    let at : get_or d (length front + 1 - 1) 0 ≡ slash = (let e : length front + 1 - 1 ≡ length front = omega arith in rw e (get_or-append_seam front slash name 0)) in
    let e : suffix_len (λ b. not (b == slash)) d ≡ length d - (length front + 1) = suffix_len_is (λ b. not (b == slash)) d (length front + 1) 0 (omega arith) behind (λ l. rw at refl) in
    omega arith
  where
    seen : (k : ℕ) → length front + 1 ≤ k → k < length (front ++ slash ∷ name) → not (get_or (front ++ slash ∷ name) k 0 == slash) ≡ true
    seen k low l =
        let e : get_or (front ++ slash ∷ name) k 0 ≡ get_or (slash ∷ name) (k - length front) 0 = get_or-append_right front (slash ∷ name) k 0 (omega arith) in
        let f : k - length front ≡ suc (k - length front - 1) = omega arith in
        rw (e, f) (plain_at name (k - length front - 1) h (omega (arith, length-append front (slash ∷ name))))

take_front : (front rest : List ℕ) → take (length front) (front ++ rest) ≡ front
take_front [] rest = refl
take_front (x ∷ front) rest = ap (λ l. x ∷ l) (take_front front rest)

dir_plain : (d : List ℕ) → is_plain d ≡ true → dir_of d ≡ dot ∷ []
dir_plain d h = ap (λ n. dir_to n d) (plain_from d h)

dir_root : (name : List ℕ) → is_plain name ≡ true → dir_of (slash ∷ name) ≡ slash ∷ []
dir_root name h = ap (λ n. dir_to n (slash ∷ name)) (slash_last [] name h)

dir_far : (n : ℕ) (d : List ℕ) → dir_to (suc (suc n)) d ≡ take (suc n) d
dir_far n d = by (suc (suc n) == 0) (suc (suc n) == 1) refl refl
  where
    by : (a b : Bool) → (suc (suc n) == 0) ≡ a → (suc (suc n) == 1) ≡ b → (if a then dot ∷ [] else (if b then slash ∷ [] else take (suc (suc n) - 1) d)) ≡ take (suc n) d
    by true b e h = absurd (omega (arith, eqb-true (suc (suc n)) 0 e))
    by false true e h = absurd (omega (arith, eqb-true (suc (suc n)) 1 h))
    by false false e h = let k : suc (suc n) - 1 ≡ suc n = omega arith in ap (λ m. take m d) k

dir_front : (f : ℕ) (fs name : List ℕ) → is_plain name ≡ true → dir_of (f ∷ (fs ++ slash ∷ name)) ≡ f ∷ fs
dir_front f fs name h =
    let e : behind_last slash (f ∷ (fs ++ slash ∷ name)) ≡ suc (suc (length fs)) = slash_last (f ∷ fs) name h ∙ (omega arith) in
    ap (λ n. dir_to n (f ∷ (fs ++ slash ∷ name))) e ∙ dir_far (length fs) (f ∷ (fs ++ slash ∷ name)) ∙ take_front (f ∷ fs) (slash ∷ name)

-- a text by its last slash, and its directory
by_last : (P : List ℕ → List ℕ → Type 0) → ((d : List ℕ) → is_plain d ≡ true → P d (dot ∷ [])) → ((name : List ℕ) → is_plain name ≡ true → P (slash ∷ name) (slash ∷ []))
    → ((f : ℕ) (fs name : List ℕ) → is_plain name ≡ true → P (f ∷ (fs ++ slash ∷ name)) (f ∷ fs)) → (d : List ℕ) → P d (dir_of d)
by_last P plain root front d = cut (split d)
  where
    split : (d : List ℕ) → (is_plain d ≡ true) ⊎ ((before : List ℕ) × (name : List ℕ) × (d ≡ before ++ slash ∷ name) × (is_plain name ≡ true))
    split [] = inl refl
    split (b ∷ bs) = behind (split bs) (cases_Bool (b == slash))
      where
        behind : (is_plain bs ≡ true) ⊎ ((before : List ℕ) × (name : List ℕ) × (bs ≡ before ++ slash ∷ name) × (is_plain name ≡ true)) → ((b == slash) ≡ true) ⊎ ((b == slash) ≡ false)
            → (is_plain (b ∷ bs) ≡ true) ⊎ ((before : List ℕ) × (name : List ℕ) × (b ∷ bs ≡ before ++ slash ∷ name) × (is_plain name ≡ true))
        behind (inr s) c = inr (b ∷ s.0, s.1, ap (λ l. b ∷ l) s.2, s.3)
        behind (inl h) (inl is) = inr ([], bs, ap (λ c. c ∷ bs) (eqb-true b slash is), h)
        behind (inl h) (inr other) = inl (rw (other, h) refl)

    cut : (is_plain d ≡ true) ⊎ ((before : List ℕ) × (name : List ℕ) × (d ≡ before ++ slash ∷ name) × (is_plain name ≡ true)) → P d (dir_of d)
    cut (inl h) = subst (P d) (sym (dir_plain d h)) (plain d h)
    cut (inr s) = at s.0 s.1 s.2 s.3
      where
        at : (before name : List ℕ) → d ≡ before ++ slash ∷ name → is_plain name ≡ true → P d (dir_of d)
        at [] name e h = subst (λ d. P d (dir_of d)) (sym e) (subst (P (slash ∷ name)) (sym (dir_root name h)) (root name h))
        at (f ∷ fs) name e h = subst (λ d. P d (dir_of d)) (sym e) (subst (P (f ∷ (fs ++ slash ∷ name))) (sym (dir_front f fs name h)) (front f fs name h))

-- two cuts at a slash, one of them the last
cut_before : (p front rest name : List ℕ) → p ++ slash ∷ rest ≡ front ++ slash ∷ name → is_plain name ≡ true → (p ≡ front) ⊎ ((more : List ℕ) × (front ≡ p ++ slash ∷ more))
cut_before [] [] rest name e h = inl refl
cut_before [] (f ∷ fs) rest name e h = let first : slash ≡ f = cc in inr (fs, ap (λ c. c ∷ fs) (sym first))
cut_before (x ∷ p) [] rest name e h = let tail : name ≡ p ++ slash ∷ rest = cc in absurd (slash_in p rest (rw (← tail) h))
cut_before (x ∷ p) (f ∷ fs) rest name e h =
    let first : x ≡ f = cc in
    let tail : p ++ slash ∷ rest ≡ fs ++ slash ∷ name = cc in
    on (cut_before p fs rest name tail h) first
  where
    on : (p ≡ fs) ⊎ ((more : List ℕ) × (fs ≡ p ++ slash ∷ more)) → x ≡ f → (x ∷ p ≡ f ∷ fs) ⊎ ((more : List ℕ) × (f ∷ fs ≡ x ∷ (p ++ slash ∷ more)))
    on (inl e) first = inl (ap (λ c. c ∷ p) first ∙ ap (λ l. f ∷ l) e)
    on (inr s) first = inr (s.0, ap (λ c. c ∷ fs) (sym first) ∙ ap (λ l. x ∷ l) s.1)

-- one byte alone goes on behind no path
alone : (b : ℕ) (p : List ℕ) → 0 < length p → goes_on (b ∷ []) p ≡ false
alone b p l = false_from_ne_true (goes_on (b ∷ []) p) (λ h. let s = goes (b ∷ []) p h in omega (arith, ap length s.1, length-append p (slash ∷ s.0)))

differs : (a p : List ℕ) (b : Bool) → (a ≡ p → b ≡ true) → b ≡ false → bytes_eq a p ≡ false
differs a p b f is = false_from_ne_true (bytes_eq a p) (λ h. true≢false (sym (f ((bytes_eq-Decides a p).0 h)) ∙ is))

abbrev Holds : List ℕ → List ℕ → Type 0
Holds d dir = (p : List ℕ) → 0 < length p → is_end d ≡ false → is_below d p ≡ lies_in dir p

by_end : (d dir : List ℕ) → (is_end d ≡ false → is_below d (dot ∷ []) ≡ lies_in dir (dot ∷ [])) → (is_end d ≡ false → is_below d (slash ∷ []) ≡ lies_in dir (slash ∷ []))
    → ((p : List ℕ) → 0 < length p → is_top p ≡ false → is_root p ≡ false → goes_on d p ≡ (bytes_eq dir p || goes_on dir p)) → Holds d dir
by_end d dir at_top at_root elsewhere p l e = cases (cases_Bool (is_top p)) (cases_Bool (is_root p))
  where
    cases : (is_top p ≡ true) ⊎ (is_top p ≡ false) → (is_root p ≡ true) ⊎ (is_root p ≡ false) → is_below d p ≡ lies_in dir p
    cases (inl t) r = subst (λ q. is_below d q ≡ lies_in dir q) (sym (top_is p t)) (at_top e)
    cases (inr t) (inl r) = subst (λ q. is_below d q ≡ lies_in dir q) (sym (root_is p r)) (at_root e)
    cases (inr t) (inr r) = other d p t r ∙ elsewhere p l t r ∙ ap (λ b. bytes_eq dir p || b) (sym (other dir p t r))

plain_absolute : (d : List ℕ) → is_plain d ≡ true → is_absolute d ≡ false
plain_absolute [] h = refl
plain_absolute (b ∷ bs) h = not-true (b == slash) (and_parts _ _ h).0

plain_holds : (d : List ℕ) → is_plain d ≡ true → Holds d (dot ∷ [])
plain_holds d h = by_end d (dot ∷ []) top root elsewhere
  where
    top : is_end d ≡ false → is_below d (dot ∷ []) ≡ lies_in (dot ∷ []) (dot ∷ [])
    top e = let goes : is_top d ≡ false = (or_parts (is_top d) (is_root d) e).0 in rw (plain_absolute d h, goes) refl

    root : is_end d ≡ false → is_below d (slash ∷ []) ≡ lies_in (dot ∷ []) (slash ∷ [])
    root e = rw (plain_absolute d h) refl

    elsewhere : (p : List ℕ) → 0 < length p → is_top p ≡ false → is_root p ≡ false → goes_on d p ≡ (bytes_eq (dot ∷ []) p || goes_on (dot ∷ []) p)
    elsewhere p l t r =
        let none : goes_on d p ≡ false = false_from_ne_true (goes_on d p) (λ g. let s = goes d p g in slash_in p s.0 (rw s.1 at h)) in
        none ∙ sym (rw (differs (dot ∷ []) p (is_top p) (λ q. ap is_top (sym q)) t, alone dot p l) refl)

root_holds : (name : List ℕ) → is_plain name ≡ true → Holds (slash ∷ name) (slash ∷ [])
root_holds name h = by_end (slash ∷ name) (slash ∷ []) (λ e. refl) root elsewhere
  where
    root : is_end (slash ∷ name) ≡ false → is_below (slash ∷ name) (slash ∷ []) ≡ lies_in (slash ∷ []) (slash ∷ [])
    root e = let goes : is_root (slash ∷ name) ≡ false = (or_parts (is_top (slash ∷ name)) (is_root (slash ∷ name)) e).1 in rw goes refl

    behind : (p rest : List ℕ) → 0 < length p → slash ∷ name ≡ p ++ slash ∷ rest → ⊥
    behind [] rest l e = omega arith
    behind (x ∷ p) rest l e = let tail : name ≡ p ++ slash ∷ rest = cc in slash_in p rest (rw tail at h)

    elsewhere : (p : List ℕ) → 0 < length p → is_top p ≡ false → is_root p ≡ false → goes_on (slash ∷ name) p ≡ (bytes_eq (slash ∷ []) p || goes_on (slash ∷ []) p)
    elsewhere p l t r =
        let none : goes_on (slash ∷ name) p ≡ false = false_from_ne_true (goes_on (slash ∷ name) p) (λ g. let s = goes (slash ∷ name) p g in behind p s.0 l s.1) in
        none ∙ sym (rw (differs (slash ∷ []) p (is_root p) (λ q. ap is_root (sym q)) r, alone slash p l) refl)

front_holds : (f : ℕ) (fs name : List ℕ) → is_plain name ≡ true → Holds (f ∷ (fs ++ slash ∷ name)) (f ∷ fs)
front_holds f fs name h = by_end (f ∷ (fs ++ slash ∷ name)) (f ∷ fs) (λ e. top fs (or_parts _ _ e).0) (λ e. root fs (or_parts _ _ e).1) elsewhere
  where
    top : (fs : List ℕ) → is_top (f ∷ (fs ++ slash ∷ name)) ≡ false → not ((f == slash) || is_top (f ∷ (fs ++ slash ∷ name))) ≡ lies_in (f ∷ fs) (dot ∷ [])
    top [] e = dotted (cases_Bool (f == dot))
      where
        dotted : ((f == dot) ≡ true) ⊎ ((f == dot) ≡ false) → not ((f == slash) || false) ≡ lies_in (f ∷ []) (dot ∷ [])
        dotted (inl y) = let is : f ≡ dot = eqb-true f dot y in rw is refl
        dotted (inr n) = rw n refl
    top (g ∷ gs) e = rw (and_false (f == dot)) refl

    root : (fs : List ℕ) → is_root (f ∷ (fs ++ slash ∷ name)) ≡ false → ((f == slash) && not (is_root (f ∷ (fs ++ slash ∷ name)))) ≡ lies_in (f ∷ fs) (slash ∷ [])
    root [] e = by (f == slash)
      where
        by : (b : Bool) → (b && true) ≡ ((b && true) || (b && not b))
        by true = refl
        by false = refl
    root (g ∷ gs) e = by (f == slash)
      where
        by : (b : Bool) → (b && true) ≡ ((b && false) || (b && true))
        by true = refl
        by false = refl

    elsewhere : (p : List ℕ) → 0 < length p → is_top p ≡ false → is_root p ≡ false → goes_on (f ∷ (fs ++ slash ∷ name)) p ≡ (bytes_eq (f ∷ fs) p || goes_on (f ∷ fs) p)
    elsewhere p l t r = both_ways _ _ up down
      where
        cut : (p ≡ f ∷ fs) ⊎ ((more : List ℕ) × (f ∷ fs ≡ p ++ slash ∷ more)) → (bytes_eq (f ∷ fs) p || goes_on (f ∷ fs) p) ≡ true
        cut (inl e) = rw ((bytes_eq-Decides (f ∷ fs) p).1 (sym e)) refl
        cut (inr s) = any (bytes_eq (f ∷ fs) p) (goes_back (f ∷ fs) p s.0 s.1)
          where
            any : (b : Bool) → goes_on (f ∷ fs) p ≡ true → (b || goes_on (f ∷ fs) p) ≡ true
            any true g = refl
            any false g = g

        up : goes_on (f ∷ (fs ++ slash ∷ name)) p ≡ true → (bytes_eq (f ∷ fs) p || goes_on (f ∷ fs) p) ≡ true
        up g = let s = goes (f ∷ (fs ++ slash ∷ name)) p g in cut (cut_before p (f ∷ fs) s.0 name (sym s.1) h)

        down : (bytes_eq (f ∷ fs) p || goes_on (f ∷ fs) p) ≡ true → goes_on (f ∷ (fs ++ slash ∷ name)) p ≡ true
        down g = on (or_cases _ _ g)
          where
            on : (bytes_eq (f ∷ fs) p ≡ true) ⊎ (goes_on (f ∷ fs) p ≡ true) → goes_on (f ∷ (fs ++ slash ∷ name)) p ≡ true
            on (inl e) = goes_back (f ∷ (fs ++ slash ∷ name)) p name (ap (λ l. l ++ slash ∷ name) ((bytes_eq-Decides (f ∷ fs) p).0 e))
            on (inr e) =
                let s = goes (f ∷ fs) p e in
                goes_back (f ∷ (fs ++ slash ∷ name)) p (s.0 ++ slash ∷ name) (ap (λ l. l ++ slash ∷ name) s.1 ∙ append_assoc p (slash ∷ s.0) (slash ∷ name))

-- what a path lies below, its directory lies in
pub below_is : (d p : List ℕ) → 0 < length p → is_end d ≡ false → is_below d p ≡ lies_in (dir_of d) p
below_is d = by_last Holds plain_holds root_holds front_holds d

-- the top directory and the root lie in themselves alone
pub end_is : (d p : List ℕ) → 0 < length p → is_end d ≡ true → lies_in d p ≡ bytes_eq d p
end_is d p l e = on (or_cases _ _ e)
  where
    at_top : (p : List ℕ) → 0 < length p → is_below (dot ∷ []) p ≡ false
    at_top p l = cases (cases_Bool (is_top p)) (cases_Bool (is_root p))
      where
        cases : (is_top p ≡ true) ⊎ (is_top p ≡ false) → (is_root p ≡ true) ⊎ (is_root p ≡ false) → is_below (dot ∷ []) p ≡ false
        cases (inl t) r = rw (top_is p t) refl
        cases (inr t) (inl r) = rw (root_is p r) refl
        cases (inr t) (inr r) = other (dot ∷ []) p t r ∙ alone dot p l

    at_root : (p : List ℕ) → 0 < length p → is_below (slash ∷ []) p ≡ false
    at_root p l = cases (cases_Bool (is_top p)) (cases_Bool (is_root p))
      where
        cases : (is_top p ≡ true) ⊎ (is_top p ≡ false) → (is_root p ≡ true) ⊎ (is_root p ≡ false) → is_below (slash ∷ []) p ≡ false
        cases (inl t) r = rw (top_is p t) refl
        cases (inr t) (inl r) = rw (root_is p r) refl
        cases (inr t) (inr r) = other (slash ∷ []) p t r ∙ alone slash p l

    or_none : (a b : Bool) → b ≡ false → (a || b) ≡ a
    or_none true b h = refl
    or_none false b h = h

    on : (is_top d ≡ true) ⊎ (is_root d ≡ true) → lies_in d p ≡ bytes_eq d p
    on (inl t) = or_none (bytes_eq d p) (is_below d p) (ap (λ x. is_below x p) (top_is d t) ∙ at_top p l)
    on (inr r) = or_none (bytes_eq d p) (is_below d p) (ap (λ x. is_below x p) (root_is d r) ∙ at_root p l)

pub dir_filled : (d : List ℕ) → 0 < length (dir_of d)
dir_filled d = by_last (λ d dir. 0 < length dir) (λ d h. omega arith) (λ name h. omega arith) (λ f fs name h. omega arith) d

-- how far a path is from an end, at most
abbrev pub height : List ℕ → ℕ
height d = if is_end d then 0 else suc (length d)

abbrev Lower : List ℕ → List ℕ → Type 0
Lower d dir = is_end d ≡ false → height dir < height d

pub dir_lower : (d : List ℕ) → is_end d ≡ false → height (dir_of d) < height d
dir_lower d = by_last Lower (λ d h e. rw e (omega arith)) (λ name h e. rw e (omega arith)) (λ f fs name h e. rw e (within f fs name (is_end (f ∷ fs)))) d
  where
    within : (f : ℕ) (fs name : List ℕ) (b : Bool) → (if b then 0 else suc (suc (length fs))) < suc (suc (length (fs ++ slash ∷ name)))
    within f fs name true = omega arith
    within f fs name false = omega (arith, length-append fs (slash ∷ name))

further : (d b p : List ℕ) → 0 < length b → 0 < length p → lies_in d b ≡ true → lies_in b p ≡ true
    → (is_end d ≡ false → lies_in (dir_of d) b ≡ true → lies_in (dir_of d) p ≡ true) → lies_in d p ≡ true
further d b p lb lp h k up = by (cases_Bool (is_end d))
  where
    same : bytes_eq d b ≡ true → lies_in d p ≡ true
    same e = subst (λ x. lies_in x p ≡ true) (sym ((bytes_eq-Decides d b).0 e)) k

    by : (is_end d ≡ true) ⊎ (is_end d ≡ false) → lies_in d p ≡ true
    by (inl e) = same (sym (end_is d b lb e) ∙ h)
    by (inr e) = on (or_cases _ _ h)
      where
        on : (bytes_eq d b ≡ true) ⊎ (is_below d b ≡ true) → lies_in d p ≡ true
        on (inl s) = same s
        on (inr below) = or_right (bytes_eq d p) (is_below d p) (below_is d p lp e ∙ up e (sym (below_is d b lb e) ∙ below))

up_to : (n : ℕ) (d b p : List ℕ) → height d ≤ n → 0 < length b → 0 < length p → lies_in d b ≡ true → lies_in b p ≡ true → lies_in d p ≡ true
up_to zero d b p l lb lp h k = further d b p lb lp h k (λ e below. absurd (omega (arith, dir_lower d e)))
up_to (suc n) d b p l lb lp h k = further d b p lb lp h k (λ e below. up_to n (dir_of d) b p (omega (arith, dir_lower d e)) lb lp below k)

-- what lies in a directory lies in those that it lies in
pub lies_further : (d b p : List ℕ) → 0 < length b → 0 < length p → lies_in d b ≡ true → lies_in b p ≡ true → lies_in d p ≡ true
lies_further d b p lb lp h k = up_to (height d) d b p (omega arith) lb lp h k
