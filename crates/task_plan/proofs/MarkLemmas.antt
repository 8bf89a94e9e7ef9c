-- The tree of marks: what a write changes, and where the least member stands.
use Rattle.std.proofs.Common.{arith, ◌≡◌, ◌≢◌, ◌<◌, ◌≤◌, ◌∙◌, ◌⊎◌, inl, inr, ℕ, zero, suc, ◌+◌, ◌*◌, ◌-◌, ◌/◌, ◌^◌, List, Bool, true, false, ◌||◌, ap, sym, refl, length, set, get_or, Some, None, get_or-set_other, get_or-set_same, subst, length-set, length-drop, add-one, replicate}
use Rattle.std.specs.Prelude.{if◌then◌else◌, ltb}
use Rattle.std.proofs.lemmas.List.{get_or-replicate, get_or_past, length-replicate}
use Rattle.std.specs.List.{position, position_or_len}
use Rattle.std.proofs.Math.Nat.{pow-le-pow_right}
use Rattle.std.proofs.Math.Pow.{pow-lt}
use Rattle.std.proofs.lemmas.Bool.{lt-ltb, ltb-true, ltb-false}
use Rattle.std.proofs.lemmas.List.Sums.{position_or_len_is}
use Rattle.std.proofs.lemmas.List.Quantifiers.{position-Some}
use Rattle.std.proofs.lemmas.Bool.Decides.{nat_tests}
use Rattle.std.proofs.lemmas.List.{drop-set-lt, get_or-drop}
use Rattle.task_plan.specs.Marks.{mark_at, below, IsTree, IsRoom, leaves}

pub apart : (i p : ℕ) → (i ≡ p) ⊎ (i ≢ p)
apart i p = grind (arith, nat_tests)

-- each place but one is marked where one of the two below it is
pub record IsTreeBut (tree : List Bool) (room hole : ℕ) : Type 0 where
  pub at : (i : ℕ) → 0 < i → i < room → i ≢ hole → mark_at tree i ≡ below tree i

pub all_but : (tree : List Bool) (room hole : ℕ) → IsTree tree room → IsTreeBut tree room hole
all_but tree room hole t = record { at = λ i lo hi ne. t.parents i lo hi }

pub all_again : (tree : List Bool) (room hole : ℕ) → IsTreeBut tree room hole → hole ≡ 0 → length tree ≡ 2 * room → IsTree tree room
all_again tree room hole t e n = record { size = n; parents = λ i lo hi. let ne : i ≢ hole = omega arith in t.at i lo hi ne }

kept : (tree : List Bool) (i p : ℕ) (v : Bool) → i ≢ p → 2 * i ≢ p → 2 * i + 1 ≢ p → mark_at tree i ≡ below tree i → mark_at (set tree p v) i ≡ below (set tree p v) i
kept tree i p v a b d e = rw (get_or-set_other tree p i v false a, get_or-set_other tree p (2 * i) v false b, get_or-set_other tree p (2 * i + 1) v false d) e

here : (tree : List Bool) (p : ℕ) (v : Bool) → 0 < p → p < length tree → v ≡ below tree p → mark_at (set tree p v) p ≡ below (set tree p v) p
here tree p v lo hi e =
    let b : 2 * p ≢ p = omega arith in
    let d : 2 * p + 1 ≢ p = omega arith in
    rw (get_or-set_same tree p v false hi, get_or-set_other tree p (2 * p) v false b, get_or-set_other tree p (2 * p + 1) v false d) e

written_at : (tree : List Bool) (room p i : ℕ) (v : Bool) → (i ≡ p) ⊎ (i ≢ p) → 0 < i → i < room → p < length tree → i ≢ p / 2
    → IsTreeBut tree room p → (p < room → v ≡ below tree p) → mark_at (set tree p v) i ≡ below (set tree p v) i
written_at tree room p i v (inl e) lo hi within ne t is =
    let P : ℕ → Type 0 = λ n. mark_at (set tree p v) n ≡ below (set tree p v) n in
    subst P (sym e) (here tree p v (omega arith) within (is (omega arith)))
written_at tree room p i v (inr other) lo hi within ne t is =
    kept tree i p v other (omega arith) (omega arith) (t.at i lo hi other)

-- a write of what stands below leaves only the place above in question
pub written : (tree : List Bool) (room p : ℕ) (v : Bool) → p < length tree → IsTreeBut tree room p → (p < room → v ≡ below tree p) → IsTreeBut (set tree p v) room (p / 2)
written tree room p v within t is = record { at = λ i lo hi ne. written_at tree room p i v (apart i p) lo hi within ne t is }

or_left : (a b : Bool) → a || b ≡ false → a ≡ false
or_left true b e = absurd (cc)
or_left false b e = refl

or_right : (a b : Bool) → a || b ≡ false → b ≡ false
or_right true b e = absurd (cc)
or_right false b e = e

or_is_left : (a b : Bool) → a || b ≡ true → a ≡ false → b ≡ true
or_is_left true b e f = absurd (cc)
or_is_left false b e f = e

child_at : (tree : List Bool) (i q : ℕ) → (q ≡ 2 * i) ⊎ (q ≢ 2 * i) → q / 2 ≡ i → below tree i ≡ false → mark_at tree q ≡ false
child_at tree i q (inl e) half none = rw e (or_left (mark_at tree (2 * i)) (mark_at tree (2 * i + 1)) none)
child_at tree i q (inr ne) half none =
    let e : q ≡ 2 * i + 1 = omega arith in
    rw e (or_right (mark_at tree (2 * i)) (mark_at tree (2 * i + 1)) none)

-- nothing is marked below a place that isn't
pub child_false : (tree : List Bool) (room q : ℕ) → IsTree tree room → 0 < q / 2 → q / 2 < room → mark_at tree (q / 2) ≡ false → mark_at tree q ≡ false
child_false tree room q t lo hi none = child_at tree (q / 2) q (apart q (2 * (q / 2))) refl (sym (t.parents (q / 2) lo hi) ∙ none)

double : (k : ℕ) → 2 ^ suc k ≡ 2 * 2 ^ k
double k = omega arith

pub double_add : (k : ℕ) → 2 ^ (k + 1) ≡ 2 * 2 ^ k
double_add k = rw add-one (double k)

pub few_levels : (levels : ℕ) → levels < 31 → 2 ^ (levels + 1) < 2 ^ 32
few_levels levels lt = let le : levels + 1 < 32 = omega arith in pow-lt {i = levels + 1} {j = 32} le

-- without a mark at the root there is none
pub unmarked : (tree : List Bool) (room k : ℕ) → IsTree tree room → 2 ^ k ≤ room → mark_at tree 1 ≡ false → (q : ℕ) → 2 ^ k ≤ q → q < 2 * 2 ^ k → mark_at tree q ≡ false
unmarked tree room zero t le none = λ q lo hi. let e : q ≡ 1 = omega arith in rw e none
unmarked tree room (suc k) t le none = λ q lo hi.
    let d = double k in
    let above = unmarked tree room k t (omega arith) none (q / 2) (omega arith) (omega arith) in
    child_false tree room q t (omega arith) (omega arith) above

-- the least place of a level that is marked
pub record IsLeast (tree : List Bool) (start place : ℕ) : Type 0 where
  pub from : start ≤ place
  pub to : place < 2 * start
  pub marked : mark_at tree place ≡ true
  pub least : (q : ℕ) → start ≤ q → q < place → mark_at tree q ≡ false

before_left : (tree : List Bool) (room start place : ℕ) → IsTree tree room → 0 < start → 2 * start ≤ room → IsLeast tree start place
    → (q : ℕ) → 2 * start ≤ q → q < 2 * place → mark_at tree q ≡ false
before_left tree room start place t pos le least q lo hi =
    let to = least.to in
    let above = least.least (q / 2) (omega arith) (omega arith) in
    child_false tree room q t (omega arith) (omega arith) above

pub least_left : (tree : List Bool) (room start place : ℕ) → IsTree tree room → 0 < start → 2 * start ≤ room → IsLeast tree start place
    → mark_at tree (2 * place) ≡ true → IsLeast tree (2 * start) (2 * place)
least_left tree room start place t pos le l m =
    let from = l.from in
    let to = l.to in
    record { from = omega arith; to = omega arith; marked = m; least = before_left tree room start place t pos le l }

before_right : (tree : List Bool) (room start place q : ℕ) → IsTree tree room → 0 < start → 2 * start ≤ room → IsLeast tree start place
    → mark_at tree (2 * place) ≡ false → (q ≡ 2 * place) ⊎ (q ≢ 2 * place) → 2 * start ≤ q → q < 2 * place + 1 → mark_at tree q ≡ false
before_right tree room start place q t pos le l m (inl e) lo hi = rw e m
before_right tree room start place q t pos le l m (inr ne) lo hi = before_left tree room start place t pos le l q lo (omega arith)

pub least_right : (tree : List Bool) (room start place : ℕ) → IsTree tree room → 0 < start → 2 * start ≤ room → IsLeast tree start place
    → mark_at tree (2 * place) ≡ false → IsLeast tree (2 * start) (2 * place + 1)
least_right tree room start place t pos le l m =
    let from = l.from in
    let to = l.to in
    let above : below tree place ≡ true = sym (t.parents place (omega arith) (omega arith)) ∙ l.marked in
    record {
      from = omega arith;
      to = omega arith;
      marked = or_is_left (mark_at tree (2 * place)) (mark_at tree (2 * place + 1)) above m;
      least = λ q lo hi. before_right tree room start place q t pos le l m (apart q (2 * place)) lo hi;
    }

-- a write has come up to a place: what stands above it is in question
pub record IsWriting (tree : List Bool) (room place : ℕ) : Type 0 where
  pub from : 0 < place
  pub to : place < 2 * room
  pub size : length tree ≡ 2 * room
  pub but : IsTreeBut tree room (place / 2)

pub begins : (tree : List Bool) (room number : ℕ) (v : Bool) → IsTree tree room → number < room → IsWriting (set tree (room + number) v) room (room + number)
begins tree room number v t lt =
    let n = t.size in
    record {
      from = omega arith;
      to = omega arith;
      size = length-set tree (room + number) v ∙ n;
      but = written tree room (room + number) v (omega arith) (all_but tree room (room + number) t) (λ h. absurd (omega arith));
    }

pub goes_on : (tree : List Bool) (room place : ℕ) (v : Bool) → IsWriting tree room place → 1 < place → v ≡ below tree (place / 2) → IsWriting (set tree (place / 2) v) room (place / 2)
goes_on tree room place v w lt e =
    let n = w.size in
    let m = w.to in
    record {
      from = omega arith;
      to = omega arith;
      size = length-set tree (place / 2) v ∙ n;
      but = written tree room (place / 2) v (omega arith) w.but (λ h. e);
    }

pub ends : (tree : List Bool) (room place : ℕ) → IsWriting tree room place → place ≤ 1 → IsTree tree room
ends tree room place w le = all_again tree room (place / 2) w.but (omega arith) w.size

-- a write above the numbers changes none
pub leaves_kept : (tree : List Bool) (room place : ℕ) (v : Bool) → IsWriting tree room place → leaves (set tree (place / 2) v) room ≡ leaves tree room
leaves_kept tree room place v w = let m = w.to in drop-set-lt room tree (place / 2) v (omega arith)

none_found : (xs : List Bool) → position_or_len (λ mark. mark) xs ≡ length xs → None ≡ position (λ mark. mark) xs
none_found xs e = grind (arith, nat_tests, e)

pub first_unmarked : (tree : List Bool) (room levels : ℕ) → IsTree tree room → room ≡ 2 ^ levels → mark_at tree 1 ≡ false → None ≡ position (λ mark. mark) (leaves tree room)
first_unmarked tree room levels t e none =
    let n = t.size in
    let m : length (leaves tree room) ≡ room = length-drop room tree ∙ omega arith in
    let p : (k : ℕ) → k < room → get_or (leaves tree room) k false ≡ false =
    λ k lt. get_or-drop room tree k false ∙ unmarked tree room levels t (omega arith) none (room + k) (omega arith) (omega arith) in
    let l : position_or_len (λ mark. mark) (leaves tree room) ≡ length (leaves tree room) =
    position_or_len_is (λ mark. mark) (leaves tree room) (length (leaves tree room)) false (omega arith) (λ k lt. p k (omega arith)) (λ h. absurd (omega arith)) in
    none_found (leaves tree room) l

some_found : (xs : List Bool) (i : ℕ) → position_or_len (λ mark. mark) xs ≡ i → i < length xs → Some i ≡ position (λ mark. mark) xs
some_found xs i e lt = rw (e, lt-ltb i (length xs) lt) refl

pub first_least : (tree : List Bool) (room place : ℕ) → IsTree tree room → IsLeast tree room place → Some (place - room) ≡ position (λ mark. mark) (leaves tree room)
first_least tree room place t l =
    let n = t.size in
    let from = l.from in
    let to = l.to in
    let m : length (leaves tree room) ≡ room = length-drop room tree ∙ omega arith in
    let same : room + (place - room) ≡ place = omega arith in
    let here : get_or (leaves tree room) (place - room) false ≡ true = get_or-drop room tree (place - room) false ∙ ap (λ i. get_or tree i false) same ∙ l.marked in
    let e = position_or_len_is (λ mark. mark) (leaves tree room) (place - room) false (omega arith)
    (λ k lt. get_or-drop room tree k false ∙ l.least (room + k) (omega arith) (omega arith)) (λ h. here) in
    some_found (leaves tree room) (place - room) e (omega arith)

pub root_least : (tree : List Bool) → mark_at tree 1 ≡ true → IsLeast tree 1 1
root_least tree e = record { from = omega arith; to = omega arith; marked = e; least = λ q lo hi. absurd (omega arith) }

pub room_left : (level levels room : ℕ) → level < levels → room ≡ 2 ^ levels → 2 * 2 ^ level ≤ room
room_left level levels room lt e =
    let p : 2 ^ (suc level) ≤ 2 ^ levels = pow-le-pow_right (omega arith) (omega arith) in
    let d = double level in
    omega arith

pow_pos : (k : ℕ) → 0 < 2 ^ k
pow_pos zero = omega arith
pow_pos (suc k) = let d = double k in let p = pow_pos k in omega arith

next_by : (tree : List Bool) (room level place : ℕ) (b : Bool) → IsTree tree room → 2 * 2 ^ level ≤ room → IsLeast tree (2 ^ level) place
    → mark_at tree (2 * place) ≡ b → IsLeast tree (2 ^ (level + 1)) (if b then 2 * place else 2 * place + 1)
next_by tree room level place true t le l e =
    let same : 2 ^ (level + 1) ≡ 2 * 2 ^ level = rw add-one (double level) in
    rw same (least_left tree room (2 ^ level) place t (pow_pos level) le l e)
next_by tree room level place false t le l e =
    let same : 2 ^ (level + 1) ≡ 2 * 2 ^ level = rw add-one (double level) in
    rw same (least_right tree room (2 ^ level) place t (pow_pos level) le l e)

-- the marked place below the least one is the least of the next level
pub next_level : (tree : List Bool) (room level levels place : ℕ) → IsTree tree room → level < levels → room ≡ 2 ^ levels → IsLeast tree (2 ^ level) place
    → IsLeast tree (2 ^ (level + 1)) (if mark_at tree (2 * place) then 2 * place else 2 * place + 1)
next_level tree room level levels place t lt e l = next_by tree room level place (mark_at tree (2 * place)) t (room_left level levels room lt e) l refl

pub within_tree : (tree : List Bool) (room level levels place : ℕ) → IsTree tree room → level < levels → room ≡ 2 ^ levels → IsLeast tree (2 ^ level) place
    → 2 * place + 1 < length tree
within_tree tree room level levels place t lt e l =
    let n = t.size in
    let to = l.to in
    let le = room_left level levels room lt e in
    omega arith

blank_by : (k n : ℕ) (b : Bool) → ltb n k ≡ b → get_or (replicate k false) n false ≡ false
blank_by k n true e = get_or-replicate k n false false (ltb-true n k e)
blank_by k n false e = let m = length-replicate k false in let past = ltb-false n k e in get_or_past (replicate k false) n false (omega arith)

blank_at : (k n : ℕ) → get_or (replicate k false) n false ≡ false
blank_at k n = blank_by k n (ltb n k) refl

-- a tree of no member
pub blank : (tree : List Bool) (room : ℕ) → tree ≡ replicate (2 * room) false → IsTree tree room
blank tree room e = record {
  size = ap length e ∙ length-replicate (2 * room) false;
  parents = λ i lo hi. rw (e, blank_at (2 * room) i, blank_at (2 * room) (2 * i), blank_at (2 * room) (2 * i + 1)) refl;
}

pub blank_leaves : (tree : List Bool) (room : ℕ) → tree ≡ replicate (2 * room) false → (n : ℕ) → get_or (leaves tree room) n false ≡ false
blank_leaves tree room e n = get_or-drop room tree n false ∙ ap (λ t. get_or t (room + n) false) e ∙ blank_at (2 * room) (room + n)

few_room : (levels : ℕ) → levels < 32 → 2 ^ levels < 2 ^ 32
few_room zero lt = omega arith
few_room (suc k) lt = let e : suc k ≡ k + 1 = omega arith in rw e (few_levels k (omega arith))

-- the number at the least place is a small one
pub few_first : (tree : List Bool) (room levels place : ℕ) → IsRoom room levels → IsTree tree room → IsLeast tree room place → place - room < 2 ^ 32
few_first tree room levels place r t l =
    let first = position-Some (λ mark. mark) (leaves tree room) (place - room) false (sym (first_least tree room place t l)) in
    let len : length (leaves tree room) ≡ length tree - room = length-drop room tree in
    let size = t.size in
    let few = few_room levels r.few in
    let power = r.power in
    let lt = first.0 in
    omega arith
