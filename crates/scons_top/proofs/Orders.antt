-- Sorted paths, and those that lie below a directory among them.
use Rattle.std.proofs.Common.{append-nil, map, ◌≡◌, ◌∙◌, ◌≤◌, ◌<◌, ◌+◌, ap, sym, subst, refl, ℕ, zero, suc, Bool, true, false, List, [], ◌∷◌, ◌++◌, length, take, drop, get_or, arith}
use Rattle.std.specs.Prelude.{◌&&◌, ◌||◌, nat_eq, nat_lt, All}
use Rattle.std.proofs.lemmas.List.{get_or-drop, get_or-take, length-drop, length-take, map-append, take-append-drop, take_all}
use Rattle.std.proofs.lemmas.Option.{slice_get-get_or}
use Rattle.std.proofs.lemmas.List.Elements.{All-head, All-tail, filter-append, filter_more}
use Rattle.std.specs.List.{filter}
use Rattle.std.specs.List.Sorted.{IsPartitionedBy}
use Rattle.std.specs.Cmp.Lexicographic.{pointwise, slice_cmp}
use Rattle.std.proofs.Common.{Ordering, cond}
use Rattle.std.specs.Ordering.{is_lt, nat_cmp, ordering_then}
use Rattle.std.proofs.Math.Bool.{and-true}
use Rattle.std.proofs.lemmas.Bool.{false≢true, cond-false, cond-true, eqb-true, eq-eqb, ltb-false}
use Rattle.std.proofs.lemmas.Cmp.{nat_cmp_total, nat_eq_equiv, nat_list_cmp_total, tied_itself}
use Rattle.std.proofs.lemmas.List.Sorted.{ranks_by, sorted_far}
use Rattle.scons_base.specs.Normal.{is_top, is_root, slash}
use Rattle.scons_base.specs.Parts.{is_absolute, is_below}
use Rattle.scons_base.specs.declared.ids.NodeId.{NodeId}
use Rattle.scons_top.specs.Below.{AreInOrder, begins_below, goes_before, nodes_below, StartsAt}

-- whether a path begins with a text
abbrev begins : List ℕ → List ℕ → Bool
begins [] path = true
begins (b ∷ front) [] = false
begins (b ∷ front) (x ∷ path) = nat_eq b x && begins front path

-- ---- the paths that begin with a text stand together

first_of_both : (a b : Bool) → (a && b) ≡ true → a ≡ true
first_of_both true b is = refl
first_of_both false b is = is

second_of_both : (a b : Bool) → (a && b) ≡ true → b ≡ true
second_of_both true b is = is
second_of_both false b is = absurd (false≢true is)

both : (a b : Bool) → a ≡ true → b ≡ true → (a && b) ≡ true
both a b first second = rw (first, second) refl

grouped : (a b c : Bool) → ((a && b) && c) ≡ (a && (b && c))
grouped true b c = refl
grouped false b c = refl

swapped : (x y : ℕ) → nat_eq x y ≡ nat_eq y x
swapped x y = nat_eq_equiv.symm x y

not_less : (x y : ℕ) (o : Ordering) → is_lt (ordering_then (nat_cmp x y) o) ≡ false → y ≤ x
not_less x y o is = by_test (nat_lt x y) (nat_eq x y) refl is
  where
    lesser : nat_lt x y ≡ true → is_lt (ordering_then (nat_cmp x y) o) ≡ true
    lesser less = rw less refl

    by_test : (less same : Bool) → nat_lt x y ≡ less → is_lt (ordering_then (nat_cmp x y) o) ≡ false → y ≤ x
    by_test true same less is = absurd (false≢true (sym is ∙ lesser less))
    by_test false same less is = ltb-false x y less

-- paths whose first bytes are the same
rest_same : (x y : ℕ) (o : Ordering) → x ≡ y → is_lt (ordering_then (nat_cmp x y) o) ≡ is_lt o
rest_same x y o same =
    ap (λ (z : ℕ). is_lt (ordering_then (nat_cmp x z) o)) (sym same) ∙ ap (λ (first : Ordering). is_lt (ordering_then first o)) (tied_itself nat_cmp_total x)

pub begins_behind : (front path : List ℕ) → begins front path ≡ true → goes_before path front ≡ false
begins_behind [] [] is = refl
begins_behind [] (x ∷ path) is = refl
begins_behind (b ∷ front) [] is = absurd (false≢true is)
begins_behind (b ∷ front) (x ∷ path) is =
    let same = eqb-true b x (first_of_both (nat_eq b x) (begins front path) is) in
    rest_same x b (slice_cmp nat_cmp path front) (sym same) ∙ begins_behind front path (second_of_both (nat_eq b x) (begins front path) is)

-- what stands between a text and a path that begins with it begins with it too
pub begins_between : (front path last : List ℕ) → goes_before path front ≡ false → goes_before last path ≡ false → begins front last ≡ true → begins front path ≡ true
begins_between [] path last behind before is = refl
begins_between (b ∷ front) path [] behind before is = absurd (false≢true is)
begins_between (b ∷ front) [] (y ∷ last) behind before is = absurd (false≢true (sym behind))
begins_between (b ∷ front) (x ∷ path) (y ∷ last) behind before is =
    let first = eqb-true b y (first_of_both (nat_eq b y) (begins front last) is) in
    let low = not_less x b (slice_cmp nat_cmp path front) behind in
    let high = not_less y x (slice_cmp nat_cmp last path) before in
    let at : x ≡ b = omega (arith, first, low, high) in
    let rest = begins_between front path last (sym (rest_same x b (slice_cmp nat_cmp path front) at) ∙ behind)
    (sym (rest_same y x (slice_cmp nat_cmp last path) (sym first ∙ sym at)) ∙ before) (second_of_both (nat_eq b y) (begins front last) is) in
    both (nat_eq b x) (begins front path) (eq-eqb b x (sym at)) rest

-- ---- the paths below a directory

split_begins : (dir path : List ℕ) → (pointwise nat_eq dir (take (length dir) path) && is_absolute (drop (length dir) path)) ≡ begins (dir ++ slash ∷ []) path
split_begins [] [] = refl
split_begins [] (x ∷ path) = swapped x slash ∙ sym (and-true (nat_eq slash x))
split_begins (b ∷ dir) [] = refl
split_begins (b ∷ dir) (x ∷ path) = grouped (nat_eq b x) _ _ ∙ ap (λ rest. nat_eq b x && rest) (split_begins dir path)

-- all of them begin with the directory's text and a slash
pub below_begins : (dir path : List ℕ) → is_below path dir ≡ true → begins (begins_below dir) path ≡ true
below_begins dir path below = by_kind (is_top dir) (is_root dir) refl refl
  where
    absolute : (path : List ℕ) → is_absolute path ≡ true → begins (slash ∷ []) path ≡ true
    absolute [] is = absurd (false≢true is)
    absolute (x ∷ path) is = and-true (nat_eq slash x) ∙ swapped slash x ∙ is

    by_kind : (top root : Bool) → is_top dir ≡ top → is_root dir ≡ root → begins (begins_below dir) path ≡ true
    by_kind true root at_top at_root = ap (λ front. begins front path) (cond-true (is_top dir) _ _ at_top)
    by_kind false true at_top at_root =
        let is = sym (cond-false (is_top dir) _ _ at_top ∙ cond-true (is_root dir) _ _ at_root) ∙ below in
        ap (λ front. begins front path) (cond-false (is_top dir) _ _ at_top ∙ cond-true (is_root dir) _ _ at_root) ∙ absolute path (first_of_both _ _ is)
    by_kind false false at_top at_root =
        ap (λ front. begins front path) (cond-false (is_top dir) _ _ at_top ∙ cond-false (is_root dir) _ _ at_root)
        ∙ sym (split_begins dir path) ∙ sym (cond-false (is_top dir) _ _ at_top ∙ cond-false (is_root dir) _ _ at_root) ∙ below

-- and where it is neither the top directory nor the root, no others do
pub begins_is_below : (dir path : List ℕ) → is_top dir ≡ false → is_root dir ≡ false → begins (begins_below dir) path ≡ true → is_below path dir ≡ true
begins_is_below dir path at_top at_root is =
    (cond-false (is_top dir) _ _ at_top ∙ cond-false (is_root dir) _ _ at_root) ∙ split_begins dir path
    ∙ sym (ap (λ front. begins front path) (cond-false (is_top dir) _ _ at_top ∙ cond-false (is_root dir) _ _ at_root)) ∙ is

-- ---- in sorted lists

pub parted : (targets : List (List ℕ × NodeId)) (front : List ℕ) → AreInOrder targets → IsPartitionedBy (λ (t : List ℕ × NodeId). goes_before t.0 front) targets
parted targets front order i j d le lt before =
    let by_path = ranks_by nat_list_cmp_total (λ (t : List ℕ × NodeId). t.0) in
    let far = sorted_far (λ (a b : List ℕ × NodeId). goes_before a.0 b.0) by_path targets order i j d le lt in
    by_test (goes_before (get_or targets i d).0 front) refl far
  where
    by_test : (b : Bool) → goes_before (get_or targets i d).0 front ≡ b → goes_before (get_or targets j d).0 (get_or targets i d).0 ≡ false → goes_before (get_or targets i d).0 front ≡ true
    by_test true is far = is
    by_test false is far = absurd (false≢true (sym ((ranks_by nat_list_cmp_total (λ (p : List ℕ). p)).chain (get_or targets j d).0 (get_or targets i d).0 front far is) ∙ before))

-- ---- which of sorted targets lie below a directory

abbrev LiesNot : List ℕ → List ℕ × NodeId → Type 0
LiesNot dir t = is_below t.0 dir ≡ false

filter_none : {X : Type 0} (p : X → Bool) (xs : List X) → All (λ x. p x ≡ false) xs → filter p xs ≡ []
filter_none p [] none = refl
filter_none p (x ∷ xs) none =
    cond-false (p x) (x ∷ filter p xs) (filter p xs) (All-head (λ y. p y ≡ false) x xs none) ∙ filter_none p xs (All-tail (λ y. p y ≡ false) x xs none)

nodes_none : (dir : List ℕ) (targets : List (List ℕ × NodeId)) → All (LiesNot dir) targets → nodes_below dir targets ≡ []
nodes_none dir targets none = ap (map (λ (t : List ℕ × NodeId). t.1)) (filter_none (λ (t : List ℕ × NodeId). is_below t.0 dir) targets none)

nodes_append : (dir : List ℕ) (front rest : List (List ℕ × NodeId)) → nodes_below dir (front ++ rest) ≡ nodes_below dir front ++ nodes_below dir rest
nodes_append dir front rest =
    let p = λ (t : List ℕ × NodeId). is_below t.0 dir in
    ap (map (λ (t : List ℕ × NodeId). t.1)) (filter-append p front rest) ∙ map-append (λ (t : List ℕ × NodeId). t.1) (filter p front) (filter p rest)

nodes_split : (dir : List ℕ) (targets : List (List ℕ × NodeId)) (n : ℕ) → nodes_below dir targets ≡ nodes_below dir (take n targets) ++ nodes_below dir (drop n targets)
nodes_split dir targets n = ap (nodes_below dir) (sym (take-append-drop n targets)) ∙ nodes_append dir (take n targets) (drop n targets)

-- one more that is gone over
nodes_next : (dir : List ℕ) (targets : List (List ℕ × NodeId)) (i : ℕ) (t : List ℕ × NodeId) (below : Bool) → i < length targets → t ≡ get_or targets i t → is_below t.0 dir ≡ below
    → nodes_below dir (take (i + 1) targets) ≡ nodes_below dir (take i targets) ++ map (λ (x : List ℕ × NodeId). x.1) (cond below (t ∷ []) [])
nodes_next dir targets i t below lt at is =
    let p = λ (x : List ℕ × NodeId). is_below x.0 dir in
    let second = λ (x : List ℕ × NodeId). x.1 in
    ap (map second) (filter_more p targets i t lt) ∙ map-append second (filter p (take i targets)) (cond (p (get_or targets i t)) (get_or targets i t ∷ []) [])
    ∙ ap (λ (x : List ℕ × NodeId). nodes_below dir (take i targets) ++ map second (cond (p x) (x ∷ []) [])) (sym at)
    ∙ ap (λ (b : Bool). nodes_below dir (take i targets) ++ map second (cond b (t ∷ []) [])) is

pub nodes_more : (dir : List ℕ) (targets : List (List ℕ × NodeId)) (i : ℕ) (t : List ℕ × NodeId) (old new : List NodeId) → i < length targets → t ≡ get_or targets i t
    → is_below t.0 dir ≡ true → new ≡ old ++ t.1 ∷ [] → old ≡ nodes_below dir (take i targets) → new ≡ nodes_below dir (take (i + 1) targets)
nodes_more dir targets i t old new lt at is more was =
    more ∙ ap (λ (front : List NodeId). front ++ t.1 ∷ []) was ∙ sym (nodes_next dir targets i t true lt at is)

pub nodes_kept : (dir : List ℕ) (targets : List (List ℕ × NodeId)) (i : ℕ) (t : List ℕ × NodeId) (old new : List NodeId) → i < length targets → t ≡ get_or targets i t
    → is_below t.0 dir ≡ false → new ≡ old → old ≡ nodes_below dir (take i targets) → new ≡ nodes_below dir (take (i + 1) targets)
nodes_kept dir targets i t old new lt at is same was =
    same ∙ was ∙ sym (append-nil (nodes_below dir (take i targets))) ∙ sym (nodes_next dir targets i t false lt at is)

-- a test that holds or doesn't
unless : (b : Bool) → (b ≡ true → ⊥) → b ≡ false
unless true never = absurd (never refl)
unless false never = refl

same_or : {X : Type 0} (xs : List X) (i : ℕ) (d e : X) → i < length xs → get_or xs i d ≡ get_or xs i e
same_or xs i d e lt =
    let one = slice_get-get_or xs i d lt in
    let other = slice_get-get_or xs i e lt in
    cc

module _ (dir : List ℕ) (targets : List (List ℕ × NodeId)) (first : ℕ) (starts : StartsAt targets (begins_below dir) first) where
  -- none stands in front of the place where they start
  front_none : All (LiesNot dir) (take first targets)
  front_none k d lt =
      let within : k < first = let long = length-take first targets in omega (arith, long, lt) in
      let before = starts.before k d (omega arith) within in
      subst (LiesNot dir) (sym (get_or-take first targets k d within))
      (unless (is_below (get_or targets k d).0 dir) (λ is. absurd (false≢true (sym (begins_behind (begins_below dir) (get_or targets k d).0 (below_begins dir (get_or targets k d).0 is)) ∙ before))))

  -- so they are those behind it
  pub nodes_behind : nodes_below dir targets ≡ nodes_below dir (drop first targets)
  nodes_behind = nodes_split dir targets first ∙ ap (λ (front : List NodeId). front ++ nodes_below dir (drop first targets)) (nodes_none dir (take first targets) front_none)

  pub nodes_ended : (i : ℕ) (nodes : List NodeId) → length (drop first targets) ≤ i → nodes ≡ nodes_below dir (take i (drop first targets)) → nodes ≡ nodes_below dir targets
  nodes_ended i nodes le is = is ∙ ap (nodes_below dir) (take_all i (drop first targets) le) ∙ sym nodes_behind

  module _ (order : AreInOrder targets) (i : ℕ) (x : List ℕ × NodeId) (lt : i < length (drop first targets)) (at : x ≡ get_or (drop first targets) i x)
      (at_top : is_top dir ≡ false) (at_root : is_root dir ≡ false) (none : is_below x.0 dir ≡ false) where
    there : first + i < length targets
    there = let long = length-drop first targets in omega (arith, long, lt)

    x_is : (d : List ℕ × NodeId) → x ≡ get_or targets (first + i) d
    x_is d = at ∙ get_or-drop first targets i x ∙ same_or targets (first + i) x d there

    later : (j : ℕ) (d : List ℕ × NodeId) → first + i ≤ j → j < length targets → LiesNot dir (get_or targets j d)
    later j d le within =
        let y = get_or targets j d in
        let by_path = ranks_by nat_list_cmp_total (λ (t : List ℕ × NodeId). t.0) in
        let far : goes_before y.0 x.0 ≡ false = subst (λ (z : List ℕ × NodeId). goes_before y.0 z.0 ≡ false) (sym (x_is d))
        (sorted_far (λ (a b : List ℕ × NodeId). goes_before a.0 b.0) by_path targets order (first + i) j d le within) in
        let behind : goes_before x.0 (begins_below dir) ≡ false = subst (λ (z : List ℕ × NodeId). goes_before z.0 (begins_below dir) ≡ false) (sym (x_is d))
        (starts.behind (first + i) d (omega arith) there) in
        unless (is_below y.0 dir) (λ is. absurd (false≢true (sym none ∙ begins_is_below dir x.0 at_top at_root
        (begins_between (begins_below dir) x.0 y.0 behind far (below_begins dir y.0 is)))))

    rest_none : All (LiesNot dir) (drop i (drop first targets))
    rest_none k d within =
        let outer = length-drop i (drop first targets) in
        let inner = length-drop first targets in
        let place : get_or (drop i (drop first targets)) k d ≡ get_or targets (first + (i + k)) d = get_or-drop i (drop first targets) k d ∙ get_or-drop first targets (i + k) d in
        subst (LiesNot dir) (sym place) (later (first + (i + k)) d (omega arith) (omega (arith, outer, inner, within)))

    -- and none stands behind the first there that lies elsewhere
    pub nodes_stopped : (nodes : List NodeId) → nodes ≡ nodes_below dir (take i (drop first targets)) → nodes ≡ nodes_below dir targets
    nodes_stopped nodes is =
        is ∙ sym (append-nil (nodes_below dir (take i (drop first targets))))
        ∙ ap (λ (rest : List NodeId). nodes_below dir (take i (drop first targets)) ++ rest) (sym (nodes_none dir (drop i (drop first targets)) rest_none))
        ∙ sym (nodes_split dir (drop first targets) i) ∙ sym nodes_behind

-- neither of two is
pub first_wide : (a b : Bool) → (a || b) ≡ false → a ≡ false
first_wide true b is = is
first_wide false b is = refl

pub second_wide : (a b : Bool) → (a || b) ≡ false → b ≡ false
second_wide true b is = absurd (false≢true (sym is))
second_wide false b is = is
