-- Lists that are read by places and from the front on.
use Rattle.std.proofs.Common.{arith, ◌≡◌, ◌≢◌, ◌<◌, ◌≤◌, ◌∙◌, ◌⊎◌, inl, inr, ℕ, zero, suc, ◌+◌, ◌-◌, List, [], ◌∷◌, ◌++◌, Bool, true, false, ◌&&◌, ◌||◌, ap, sym, refl, length, set, get_or, take, Some, None, append_assoc}
use Rattle.std.specs.Prelude.{slice_get, is_some, cond, if◌then◌else◌, nat_eq}
use Rattle.std.specs.List.{list_any, list_all}
use Rattle.std.specs.Map.{lookup}
use Rattle.std.proofs.lemmas.List.{take-append-le, take_all, append-nil}
use Rattle.std.proofs.lemmas.List.Folds.{list_all_more, list_all_at}
use Rattle.std.proofs.lemmas.Grind.{common_steps}
use Rattle.std.proofs.lemmas.Option.{slice_get_within, get_or_from_slice_get, same_Some}
use Rattle.indexmap.specs.IndexMap.{insert_entry}
use Rattle.indexmap.specs.IndexSet.{insert_key}
use Rattle.scons_base.specs.declared.ids.NodeId.{NodeId}
use Rattle.task_plan.specs.Settled.{IsLonger, AreScannedIn, is_scanned}

pub and_left : (a b : Bool) → (a && b) ≡ true → a ≡ true
and_left true b h = refl
and_left false b h = h

pub and_right : (a b : Bool) → (a && b) ≡ true → b ≡ true
and_right true b h = h
and_right false b h = absurd (cc)

pub and_both : (a b : Bool) → a ≡ true → b ≡ true → (a && b) ≡ true
and_both true b e f = f
and_both false b e f = e

pub list_all_weaker : {X : Type 0} (p q : X → Bool) (xs : List X) → ((x : X) → p x ≡ true → q x ≡ true) → list_all p xs ≡ true → list_all q xs ≡ true
list_all_weaker p q [] f h = refl
list_all_weaker p q (x ∷ xs) f h =
    and_both (q x) (list_all q xs) (f x (and_left (p x) (list_all p xs) h)) (list_all_weaker p q xs f (and_right (p x) (list_all p xs) h))

-- one more of the first passes
pub one_more : {X : Type 0} (p : X → Bool) (xs : List X) (i : ℕ) (x : X) → slice_get xs i ≡ Some x → list_all p (take i xs) ≡ true → p x ≡ true → list_all p (take (i + 1) xs) ≡ true
one_more p xs i x e h f =
    let lt = slice_get_within xs i x e in
    let same : get_or xs i x ≡ x = get_or_from_slice_get xs i x x e in
    list_all_more p xs i x lt ∙ and_both (list_all p (take i xs)) (p (get_or xs i x)) h (ap p same ∙ f)

pub all_by : {X : Type 0} (p : X → Bool) (xs : List X) (i : ℕ) (x : X) (b : Bool) → p x ≡ b → list_all p xs ≡ true → slice_get xs i ≡ Some x → b ≡ true
all_by p xs i x true f h e = refl
all_by p xs i x false f h e =
    let same : get_or xs i x ≡ x = get_or_from_slice_get xs i x x e in
    let no : list_all p xs ≡ false = list_all_at p xs i x (slice_get_within xs i x e) (ap p same ∙ f) in
    sym no ∙ h

-- where all of the first pass, and these are all, each passes
pub each_of_all : {X : Type 0} (p : X → Bool) (xs : List X) (count i : ℕ) (x : X) → list_all p (take count xs) ≡ true → length xs ≤ count → slice_get xs i ≡ Some x → p x ≡ true
each_of_all p xs count i x h le e = all_by p xs i x (p x) refl (ap (list_all p) (sym (take_all count xs le)) ∙ h) e

pub get-set_other : {X : Type 0} (xs : List X) (i x : ℕ) (v : X) → x ≢ i → slice_get (set xs i v) x ≡ slice_get xs x
get-set_other [] i x v ne = refl
get-set_other (y ∷ ys) zero zero v ne = absurd (ne refl)
get-set_other (y ∷ ys) zero (suc x) v ne = refl
get-set_other (y ∷ ys) (suc i) zero v ne = refl
get-set_other (y ∷ ys) (suc i) (suc x) v ne = get-set_other ys i x v (λ e. ne (ap suc e))

pub get-set_same : {X : Type 0} (xs : List X) (i : ℕ) (v t : X) → slice_get xs i ≡ Some t → slice_get (set xs i v) i ≡ Some v
get-set_same [] i v t e = absurd (cc)
get-set_same (y ∷ ys) zero v t e = refl
get-set_same (y ∷ ys) (suc i) v t e = get-set_same ys i v t e

pub get-set_is : {X : Type 0} (xs : List X) (i : ℕ) (v t : X) → slice_get (set xs i v) i ≡ Some t → t ≡ v
get-set_is [] i v t e = absurd (cc)
get-set_is (y ∷ ys) zero v t e = sym (same_Some v t e)
get-set_is (y ∷ ys) (suc i) v t e = get-set_is ys i v t e

pub get-front : {X : Type 0} (xs zs : List X) (i : ℕ) (t : X) → slice_get xs i ≡ Some t → slice_get (xs ++ zs) i ≡ Some t
get-front [] zs i t e = absurd (cc)
get-front (x ∷ xs) zs zero t e = e
get-front (x ∷ xs) zs (suc i) t e = get-front xs zs i t e

pub get-last : {X : Type 0} (xs : List X) (v : X) (i : ℕ) (t : X) → slice_get (xs ++ v ∷ []) i ≡ Some t → (slice_get xs i ≡ Some t) ⊎ (t ≡ v)
get-last [] v zero t e = inr (sym (same_Some v t e))
get-last [] v (suc i) t e = absurd (cc)
get-last (x ∷ xs) v zero t e = inl e
get-last (x ∷ xs) v (suc i) t e = get-last xs v i t e

pub get-within : {X : Type 0} (xs zs : List X) (i : ℕ) → i < length xs → slice_get (xs ++ zs) i ≡ slice_get xs i
get-within [] zs i lt = absurd (omega arith)
get-within (x ∷ xs) zs zero lt = refl
get-within (x ∷ xs) zs (suc i) lt = get-within xs zs i (omega arith)

-- a list ends before a place where nothing stands
pub none_past : {X : Type 0} (xs : List X) (i : ℕ) → slice_get xs i ≡ None → length xs ≤ i
none_past [] i e = omega arith
none_past (x ∷ xs) zero e = absurd (cc)
none_past (x ∷ xs) (suc i) e = let l = none_past xs i e in omega arith

behind : {X : Type 0} (xs zs : List X) (i : ℕ) → slice_get (xs ++ zs) (length xs + i) ≡ slice_get zs i
behind [] zs i = let e : 0 + i ≡ i = omega arith in ap (slice_get zs) e
behind (x ∷ xs) zs i = let e : length (x ∷ xs) + i ≡ suc (length xs + i) = omega arith in ap (slice_get ((x ∷ xs) ++ zs)) e ∙ behind xs zs i

pub get-behind : {X : Type 0} (xs zs : List X) (i : ℕ) → length xs ≤ i → slice_get (xs ++ zs) i ≡ slice_get zs (i - length xs)
get-behind xs zs i le =
    let e : i ≡ length xs + (i - length xs) = omega arith in
    ap (slice_get (xs ++ zs)) e ∙ behind xs zs (i - length xs)

pub longer_same : (a b : List NodeId) → b ≡ a → IsLonger a b
longer_same a b e = record { more = []; is = e ∙ sym (append-nil a) }

longer_more : (a b : List NodeId) (k : NodeId) → IsLonger a b → IsLonger a (b ++ k ∷ [])
longer_more a b k l = record { more = l.more ++ k ∷ []; is = ap (λ ys. ys ++ k ∷ []) l.is ∙ append_assoc a l.more (k ∷ []) }

longer_by : (a b : List NodeId) (k : NodeId) (t : Bool) → IsLonger a b → IsLonger a (if t then b else b ++ k ∷ [])
longer_by a b k true l = l
longer_by a b k false l = longer_more a b k l

pub longer_insert : (eq : NodeId → NodeId → Bool) (a b c : List NodeId) (k : NodeId) → IsLonger a b → c ≡ insert_key eq b k → IsLonger a c
longer_insert eq a b c k l e = rw e (longer_by a b k (list_any (eq k) b) l)

pub longer_trans : (a b c : List NodeId) → IsLonger a b → IsLonger b c → IsLonger a c
longer_trans a b c l m = record { more = l.more ++ m.more; is = m.is ∙ ap (λ ys. ys ++ m.more) l.is ∙ append_assoc a l.more m.more }

pub longer_on : (a b c : List NodeId) → IsLonger a b → c ≡ b → IsLonger a c
longer_on a b c l e = rw e l

or_by : (a b c : Bool) → (b ≡ true → c ≡ true) → (a || b) ≡ true → (a || c) ≡ true
or_by true b c f h = refl
or_by false b c f h = f h

module _ {K X : Type 0} (test : K → Bool) where
  any_by : (b : Bool) (x : X) (es : List (K × X)) → is_some (lookup test es) ≡ list_any (λ e. test e.0) es → is_some (cond b (Some x) (lookup test es)) ≡ (b || list_any (λ e. test e.0) es)
  any_by true x es h = refl
  any_by false x es h = h

  pub some_lookup : (es : List (K × X)) → is_some (lookup test es) ≡ list_any (λ e. test e.0) es
  some_lookup [] = refl
  some_lookup (e ∷ es) = any_by (test e.0) e.1 es (some_lookup es)

  insert_by : (t : Bool) (e : K × X) (es rest : List (K × X)) (v : X)
      → (list_any (λ y. test y.0) es ≡ true → list_any (λ y. test y.0) rest ≡ true)
      → (test e.0 || list_any (λ y. test y.0) es) ≡ true → list_any (λ y. test y.0) (if t then (e.0, v) ∷ es else e ∷ rest) ≡ true
  insert_by true e es rest v f h = h
  insert_by false e es rest v f h = or_by (test e.0) (list_any (λ y. test y.0) es) (list_any (λ y. test y.0) rest) f h

  pub any_insert : (eq : K → K → Bool) (es : List (K × X)) (k : K) (v : X) → list_any (λ y. test y.0) es ≡ true → list_any (λ y. test y.0) (insert_entry eq es k v) ≡ true
  any_insert eq [] k v h = absurd (cc)
  any_insert eq (e ∷ es) k v h = insert_by (eq k e.0) e es (insert_entry eq es k v) v (any_insert eq es k v) h

module _ {X : Type 0} where
  pub scanned_none : (found : List (NodeId × X)) (files : List NodeId) (count : ℕ) → count ≡ 0 → AreScannedIn found files count
  scanned_none found files count e = rw e (record { within = omega arith; each = refl })

  pub scanned_longer : (found : List (NodeId × X)) (a b : List NodeId) (count : ℕ) → AreScannedIn found a count → IsLonger a b → AreScannedIn found b count
  scanned_longer found a b count s l = rw l.is (record {
    within = let w = s.within in grind (arith, common_steps);
    each = ap (list_all (λ n. is_scanned found n)) (take-append-le count a l.more s.within) ∙ s.each;
  })

  pub scanned_insert : (eq : NodeId → NodeId → Bool) (found new : List (NodeId × X)) (files : List NodeId) (count : ℕ) (k : NodeId) (v : X) → AreScannedIn found files count
      → new ≡ insert_entry eq found k v → AreScannedIn new files count
  scanned_insert eq found new files count k v s e = rw e (record {
    within = s.within;
    each = list_all_weaker (λ n. is_scanned found n) (λ n. is_scanned (insert_entry eq found k v) n) (take count files) (λ n h. any_insert (λ m. nat_eq n.0 m.0) eq found k v h) s.each;
  })

  pub scanned_more : (found : List (NodeId × X)) (files : List NodeId) (count : ℕ) (n : NodeId) → AreScannedIn found files count
      → slice_get files count ≡ Some n → is_scanned found n ≡ true → AreScannedIn found files (count + 1)
  scanned_more found files count n s e h = record {
    within = let lt = slice_get_within files count n e in omega arith;
    each = one_more (λ n. is_scanned found n) files count n e s.each h;
  }

pub ruleset scanned_steps = (scanned_longer, scanned_insert)
