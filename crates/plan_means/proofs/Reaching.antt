-- The files of a rule, breadth first, are those that the model lists.
use Rattle.std.proofs.Common.{◌≡◌, ◌<◌, ◌≤◌, ℕ, zero, suc, Bool, true, false, ◌||◌, List, [], ◌∷◌, ◌++◌, length, map, Some, refl, sym, subst, ap, ◌∙◌, ⊎_elim, arith}
use Rattle.std.specs.Prelude.{slice_get, nat_eq, nat_lt, filter, if◌then◌else◌}
use Rattle.std.specs.List.{list_any, flat_map, AllByRecursion, IsDistinct}
use Rattle.std.proofs.lemmas.Bool.Decides.{Decides-eqb, nat_tests}
use Rattle.std.proofs.lemmas.List.{map-append, append-nil, append_assoc, length-map, length-append}
use Rattle.std.proofs.lemmas.List.Folds.{list_any-append, list_all-append}
use Rattle.std.proofs.lemmas.List.Concat.{flat_map-append}
use Rattle.std.proofs.lemmas.Map.Steps.{length-le_from_distinct_below}
use Rattle.scons_base.specs.declared.ids.NodeId.{NodeId}
use Rattle.rule_graph.specs.declared.rule.Rule as declared
use Rattle.rule_graph.specs.Graphs.{RuleGraph, path_of}
use Rattle.rule_graph.specs.Rules.{are_below, IsRule}
use Rattle.task_plan.specs.Named.{stands, put, put_all, named_of, scanned_of, sources_of, is_scanned_node}
use Rattle.task_plan.specs.Settled.{Kept}
use Rattle.task_plan.specs.Listed.{included, IsReach}
use Rattle.task_plan.proofs.ListLemmas.{and_both, get-within}
use Rattle.task_plan.proofs.NamedLemmas.{put_all-append, put_all_longer}
use Rattle.task_plan.proofs.MetNeeds.{all_put_all, stands_at, put_all_in, put_all_not_out, news_below}
use Rattle.build_model.specs.Rules.{Path, Rule, Among}
use Rattle.build_model.specs.Reach.{has, unseen, breadth_first, declared as declared_paths, first_scanned, left_out, scan_list, reach}
use Rattle.build_model.proofs.Lists.{true_false, same_head, same_tail, has_among, among_has}
use Rattle.build_model.proofs.Whole.{listed_scanned, left_cases}
use Rattle.build_means.specs.Rules.{IsReading, paths_of}
use Rattle.build_means.proofs.Lists.{or_first, or_second, or_neither}
use Rattle.plan_means.specs.Names.{AreNames}
use Rattle.plan_means.specs.Lists.{KeepsRule, Includes, AreReach}
use Rattle.plan_means.proofs.Seen.{or_nothing, or_swap, has_append, unseen_same, first_below, rest_below, has_stands, put_paths, Sees}
use Rattle.plan_means.proofs.Names.{named_below, scanned_below, unscanned_sources}

pub cancel : {A : Type 0} (front : List A) {xs ys : List A} → front ++ xs ≡ front ++ ys → xs ≡ ys
cancel [] e = e
cancel (x ∷ front) e = cancel front (same_tail e)

-- each node stands once
abbrev pub Once : List NodeId → Type 0
Once [] = Unit {0}
Once (x ∷ xs) = (stands xs x ≡ false) × Once xs

eq_swap : (m n : ℕ) → nat_eq m n ≡ nat_eq n m
eq_swap m n = grind (arith, nat_tests)

or_false : (b c : Bool) → b ≡ false → c ≡ false → (b || c) ≡ false
or_false true c e f = true_false e
or_false false c e f = f

once_more : (before : List NodeId) (x : NodeId) → Once before → stands before x ≡ false → Once (before ++ x ∷ [])
once_more [] x once new = (refl, tt)
once_more (y ∷ before) x once new =
    let other : nat_eq y.0 x.0 ≡ false = eq_swap y.0 x.0 ∙ (or_neither (nat_eq x.0 y.0) (stands before x) new).0 in (
      list_any-append (λ m. nat_eq y.0 m.0) before (x ∷ [])
          ∙ or_false (stands before y) (nat_eq y.0 x.0 || false) once.0 (or_nothing (nat_eq y.0 x.0) ∙ other),
      once_more before x once.1 ((or_neither (nat_eq x.0 y.0) (stands before x) new).1),
    )

once_put : (before : List NodeId) (x : NodeId) (b c : Bool) → stands before x ≡ c → Once before →
    Once (if b then before else (if c then before else before ++ x ∷ []))
once_put before x true c e once = once
once_put before x false true e once = once
once_put before x false false e once = once_more before x once e

-- what is put behind others stands once
pub once_put_all : (out before nodes : List NodeId) → Once before → Once (put_all out before nodes)
once_put_all out before [] once = once
once_put_all out before (x ∷ nodes) once = once_put_all out (put out before x) nodes
    (once_put before x (stands out x) (stands before x) refl once)

once_behind : (y x : NodeId) (done rest : List NodeId) → (b c : Bool) → nat_eq x.0 y.0 ≡ b → stands done x ≡ c →
    stands (done ++ x ∷ rest) y ≡ false → (b || c) ≡ true → c ≡ true
once_behind y x done rest true c e f new h =
    let it : stands (done ++ x ∷ rest) y ≡ true =
    list_any-append (λ m. nat_eq y.0 m.0) done (x ∷ rest)
    ∙ or_second (stands done y) (nat_eq y.0 x.0 || stands rest y)
    (or_first (nat_eq y.0 x.0) (stands rest y) (eq_swap y.0 x.0 ∙ e)) in
    true_false (sym it ∙ new)
once_behind y x done rest false c e f new h = h

-- nothing stands before itself
pub once_before : (done rest : List NodeId) (x : NodeId) → Once (done ++ x ∷ rest) → stands done x ≡ true → ⊥
once_before [] rest x once h = true_false (sym h)
once_before (y ∷ done) rest x once h =
    once_before done rest x once.1 (once_behind y x done rest (nat_eq x.0 y.0) (stands done x) refl refl once.0 h)

apart_all : (n : NodeId) (nodes : List NodeId) → stands nodes n ≡ false →
    AllByRecursion (λ m. nat_eq n.0 m ≡ false) (map (λ (y : NodeId). y.0) nodes)
apart_all n [] e = tt
apart_all n (x ∷ nodes) e = (
  (or_neither (nat_eq n.0 x.0) (stands nodes n) e).0,
  apart_all n nodes
      ((or_neither (nat_eq n.0 x.0) (stands nodes n) e).1),
)

once_distinct : (nodes : List NodeId) → Once nodes → IsDistinct nat_eq (map (λ (y : NodeId). y.0) nodes)
unfolding IsDistinct
once_distinct [] once = tt
once_distinct (x ∷ nodes) once = (apart_all x nodes once.0, once_distinct nodes once.1)

all_under_by : (n q : ℕ) (x : NodeId) (nodes : List NodeId) (b : Bool) → nat_eq q x.0 ≡ b → x.0 < n →
    (b || list_any (nat_eq q) (map (λ (y : NodeId). y.0) nodes)) ≡ true →
    (list_any (nat_eq q) (map (λ (y : NodeId). y.0) nodes) ≡ true → q < n) → q < n
all_under_by n q x nodes true e lt h next = subst (λ (k : ℕ). k < n) (sym ((Decides-eqb q x.0).0 e)) lt
all_under_by n q x nodes false e lt h next = next h

all_under : (g : RuleGraph) → IsReading g → (nodes : List NodeId) → are_below (length g.nodes) nodes ≡ true → (q : ℕ) →
    list_any (nat_eq q) (map (λ (y : NodeId). y.0) nodes) ≡ true → q < length g.nodes
all_under g reading [] below q h = true_false (sym h)
all_under g reading (x ∷ nodes) below q h =
    all_under_by (length g.nodes) q x nodes (nat_eq q x.0) refl (first_below g reading x nodes below) h
    (all_under g reading nodes (rest_below g reading x nodes below) q)

-- nodes that stand once are no more than there are
pub few_once : (g : RuleGraph) → IsReading g → (nodes : List NodeId) → Once nodes →
    are_below (length g.nodes) nodes ≡ true → length nodes ≤ length g.nodes
few_once g reading nodes once below =
    let le = length-le_from_distinct_below (map (λ (y : NodeId). y.0) nodes) (length g.nodes)
    (once_distinct nodes once) (all_under g reading nodes below) in
    subst (λ (k : ℕ). k ≤ length g.nodes) (length-map nodes (λ (y : NodeId). y.0)) le

pub stands_flat : (inc : NodeId → List NodeId) (done : List NodeId) (i : ℕ) (by x : NodeId) →
    slice_get done i ≡ Some by → stands (inc by) x ≡ true →
    stands (flat_map inc done) x ≡ true
stands_flat inc [] i by x at h = cc
stands_flat inc (d ∷ done) zero by x at h =
    list_any-append (λ m. nat_eq x.0 m.0) (inc d) (flat_map inc done)
    ∙ or_first (stands (inc d) x) (stands (flat_map inc done) x)
    (subst (λ (y : NodeId). stands (inc y) x ≡ true) (sym (same_first at)) h)
  where
    same_first : {A : Type 0} {a b : A} → Some a ≡ Some b → a ≡ b
    same_first e = cc e
stands_flat inc (d ∷ done) (suc i) by x at h =
    list_any-append (λ m. nat_eq x.0 m.0) (inc d) (flat_map inc done)
    ∙ or_second (stands (inc d) x) (stands (flat_map inc done) x) (stands_flat inc done i by x at h)

at_end : (done rest : List NodeId) (x : NodeId) → slice_get (done ++ x ∷ rest) (length done) ≡ Some x
at_end [] rest x = refl
at_end (y ∷ done) rest x = at_end done rest x

below_flat : (g : RuleGraph) (inc : NodeId → List NodeId) →
    ((file : NodeId) → are_below (length g.nodes) (inc file) ≡ true) → (files : List NodeId) →
    are_below (length g.nodes) (flat_map inc files) ≡ true
below_flat g inc h [] = refl
below_flat g inc h (x ∷ files) =
    list_all-append (λ t. nat_lt t.0 (length g.nodes)) (inc x) (flat_map inc files)
    ∙ and_both (are_below (length g.nodes) (inc x)) (are_below (length g.nodes) (flat_map inc files)) (h x)
    (below_flat g inc h files)

regroup : (done waiting new : List NodeId) (x : NodeId) →
    (done ++ x ∷ waiting) ++ new ≡ (done ++ x ∷ []) ++ (waiting ++ new)
regroup [] waiting new x = refl
regroup (d ∷ done) waiting new x = ap (λ l. d ∷ l) (regroup done waiting new x)

module _ (g : RuleGraph) (reading : IsReading g) (sources out : List NodeId) (found : List (NodeId × List NodeId))
    (files : List NodeId)
    (is : IsReach sources out found files) (once : Once sources)
    (nodes : (file : NodeId) → are_below (length g.nodes) (included found file) ≡ true)
    (sources_below : are_below (length g.nodes) sources ≡ true) where
  abbrev listed : List NodeId → List NodeId
  listed done = put_all out sources (flat_map (included found) done)

  pub files_once : Once files
  files_once = subst Once (sym is.whole) (once_put_all out sources (flat_map (included found) files) once)

  pub files_below : are_below (length g.nodes) files ≡ true
  files_below =
      ap (are_below (length g.nodes)) is.whole
      ∙ all_put_all (λ t. nat_lt t.0 (length g.nodes)) out sources (flat_map (included found) files) sources_below
      (below_flat g (included found) nodes files)

  -- there is always a file that waits, until all are listed
  stops : (done rest : List NodeId) (x : NodeId) → files ≡ done ++ x ∷ rest → listed done ≡ done → ⊥
  stops done rest x parts e =
      let l = put_all_longer out sources (flat_map (included found) done) in
      let le : length sources ≤ length done = let n = length-append sources l.more in let m = ap length
      (sym e ∙ l.is) in omega arith in
      let at : slice_get files (length done) ≡ Some x = ap (λ xs. slice_get xs (length done)) parts
      ∙ at_end done rest x in
      let before = is.earlier (length done) x at le in
      let by_at : slice_get done before.place ≡ Some before.by =
      sym (get-within done (x ∷ rest) before.place before.before) ∙ ap (λ xs. slice_get xs before.place) (sym parts)
      ∙ before.at in
      let includes = stands_flat (included found) done before.place before.by x by_at before.includes in
      let not_out : stands out x ≡ false =
      put_all_not_out out sources (flat_map (included found) files) x (length done) le
      (ap (λ xs. slice_get xs (length done)) (sym is.whole) ∙ at) in
      ⊎_elim (λ o. true_false (sym o ∙ not_out))
      (λ s. once_before done rest x (subst Once parts files_once) (sym (ap (λ xs. stands xs x) e) ∙ s))
      (put_all_in out sources (flat_map (included found) done) x includes)

  listed_next : (done : List NodeId) (x : NodeId) → listed (done ++ x ∷ []) ≡ put_all out (listed done)
      (included found x)
  listed_next done x =
      ap (put_all out sources) (flat_map-append (included found) done (x ∷ [])
      ∙ ap (λ xs. flat_map (included found) done ++ xs) (append-nil (included found x)))
      ∙ put_all-append out sources (flat_map (included found) done) (included found x)

  -- what is listed stands first among all files
  front_of : (done rest : List NodeId) → files ≡ done ++ rest → (more : List NodeId) × (files ≡ listed done ++ more)
  front_of done rest parts =
      let l = put_all_longer out (listed done) (flat_map (included found) rest) in (
        l.more,
        is.whole ∙ ap (λ xs. put_all out sources (flat_map (included found) xs)) parts
            ∙ ap (put_all out sources) (flat_map-append (included found) done rest)
            ∙ put_all-append out sources (flat_map (included found) done) (flat_map (included found) rest) ∙ l.is,
      )

  module _ (f : Path → List Path)
      (agrees : (file : NodeId) → stands files file ≡ true → f (path_of g.nodes file) ≡ paths_of g
      (included found file)) where
    nothing_waits : (done waiting : List NodeId) → files ≡ done ++ [] → listed done ≡ done ++ waiting → waiting ≡ []
    nothing_waits done waiting parts e =
        let all : files ≡ done = parts ∙ append-nil done in
        cancel done (sym e ∙ sym (is.whole ∙ ap listed all) ∙ parts)

    waits_next : (done rest waiting : List NodeId) (x w : NodeId) → files ≡ done ++ x ∷ rest →
        listed done ≡ done ++ w ∷ waiting → w ≡ x
    waits_next done rest waiting x w parts e =
        let h = front_of done (x ∷ rest) parts in
        same_head (cancel done (sym (append_assoc done (w ∷ waiting) h.0) ∙ sym (h.1 ∙ ap (λ l. l ++ h.0) e) ∙ parts))

    walk_end : (n : ℕ) (seen : List Path) (waiting : List NodeId) → 0 < n → waiting ≡ [] →
        breadth_first f n seen (paths_of g waiting) ≡ []
    walk_end zero seen waiting lt e = absurd (omega arith)
    walk_end (suc n) seen waiting lt e = ap (λ l. breadth_first f (suc n) seen (paths_of g l)) e

    sees_next : (done waiting new : List NodeId) (x : NodeId) (seen : List Path) →
        are_below (length g.nodes) new ≡ true → Sees g reading out (done ++ x ∷ waiting) seen →
        Sees g reading out ((done ++ x ∷ []) ++ (waiting ++ new)) (paths_of g new ++ seen)
    sees_next done waiting new x seen below sees n lt =
        has_append (path_of g.nodes n) (paths_of g new) seen
        ∙ ap (λ c. c || has (path_of g.nodes n) seen) (has_stands g reading new n below lt)
        ∙ ap (λ c. stands new n || c) (sees n lt)
        ∙ behind (stands new n) (stands out n) (stands (done ++ x ∷ waiting) n)
        ∙ ap (λ c. stands out n || c) (sym (list_any-append (λ m. nat_eq n.0 m.0) (done ++ x ∷ waiting) new))
        ∙ ap (λ l. stands out n || stands l n) (regroup done waiting new x)
      where
        behind : (a b c : Bool) → (a || (b || c)) ≡ (b || (c || a))
        behind true true c = refl
        behind true false true = refl
        behind true false false = refl
        behind false true c = refl
        behind false false c = sym (or_nothing c)

    -- From here on what waits is walked over, in the order of the files.
    walk : (rest done waiting : List NodeId) (seen : List Path) (n : ℕ) → files ≡ done ++ rest →
        listed done ≡ done ++ waiting →
        Sees g reading out (done ++ waiting) seen → length rest < n →
        breadth_first f n seen (paths_of g waiting) ≡ paths_of g rest
    walk [] done waiting seen n parts e sees lt = walk_end n seen waiting lt (nothing_waits done waiting parts e)
    walk (x ∷ rest) done [] seen n parts e sees lt = absurd (stops done rest x parts (e ∙ append-nil done))
    walk (x ∷ rest) done (w ∷ waiting) seen zero parts e sees lt = absurd (omega arith)
    walk (x ∷ rest) done (w ∷ waiting) seen (suc n) parts e sees lt =
        let this : w ≡ x = waits_next done rest waiting x w parts e in
        let l = put_all_longer out (done ++ x ∷ waiting) (included found x) in
        let listed_now : listed done ≡ done ++ x ∷ waiting = e ∙ ap (λ y. done ++ y ∷ waiting) this in
        let below = news_below g out (done ++ x ∷ waiting) (included found x) l.more l.is (nodes x) in
        let sees_now = subst (λ (y : NodeId). Sees g reading out (done ++ y ∷ waiting) seen) this sees in
        let in_files : stands files x ≡ true = stands_at files (length done) x
        (ap (λ xs. slice_get xs (length done)) parts ∙ at_end done rest x) in
        let new : unseen seen (f (path_of g.nodes x)) ≡ paths_of g l.more =
        ap (unseen seen) (agrees x in_files)
        ∙ sym (cancel (paths_of g (done ++ x ∷ waiting))
        (sym (map-append (path_of g.nodes) (done ++ x ∷ waiting) l.more) ∙ ap (paths_of g) (sym l.is)
        ∙ put_paths g reading out (done ++ x ∷ waiting) (included found x) seen (nodes x) sees_now)) in
        let next = walk rest (done ++ x ∷ []) (waiting ++ l.more) (paths_of g l.more ++ seen) n
        (parts ∙ sym (append_assoc done (x ∷ []) rest))
        (listed_next done x ∙ ap (λ xs. put_all out xs (included found x)) listed_now ∙ l.is
        ∙ regroup done waiting l.more x)
        (sees_next done waiting l.more x seen below sees_now) (let k : length (x ∷ rest) < suc n = lt in omega arith) in
        ap (λ (y : NodeId). breadth_first f (suc n) seen (paths_of g (y ∷ waiting))) this
        ∙ ap (λ xs. path_of g.nodes x ∷ breadth_first f n (xs ++ seen) (paths_of g waiting ++ xs)) new
        ∙ ap (λ xs. path_of g.nodes x ∷ breadth_first f n (paths_of g l.more ++ seen) xs)
        (sym (map-append (path_of g.nodes) waiting l.more))
        ∙ ap (λ xs. path_of g.nodes x ∷ xs) next

    pub walks : (seen : List Path) (n : ℕ) → Sees g reading out sources seen → length files < n →
        breadth_first f n seen (paths_of g sources) ≡ paths_of g files
    walks seen n sees lt = walk files [] sources seen n refl refl sees lt

scanned_once_by : (g : RuleGraph) (of : declared.Rule) (b : Bool) →
    Once (if b then put_all [] [] (filter (is_scanned_node g) (sources_of of)) else [])
scanned_once_by g of true = once_put_all [] [] (filter (is_scanned_node g) (sources_of of)) tt
scanned_once_by g of false = tt

scanned_once : (g : RuleGraph) (of : declared.Rule) → Once (scanned_of g of)
scanned_once g of = scanned_once_by g of of.scans

pub sources_once : (g : RuleGraph) (of : declared.Rule) (kept : Kept) → KeepsRule g of kept → Once kept.sources
sources_once g of kept keeps = subst Once (sym keeps.sources) (scanned_once g of)

pub no_files : (sources out : List NodeId) (found : List (NodeId × List NodeId)) (files : List NodeId) →
    IsReach sources out found files → sources ≡ [] → files ≡ []
no_files sources out found [] is e = refl
no_files sources out found (x ∷ files) is e =
    let b = is.earlier 0 x refl (let n : length sources ≡ 0 = ap length e in omega arith) in
    let lt : b.place < 0 = b.before in absurd (omega arith)

module _ (g : RuleGraph) (of : declared.Rule) (r : Rule) (kept : Kept) (limit : ℕ) (includes : Path → List Path)
    (reading : IsReading g)
    (is : IsRule (length g.nodes) of) (names : AreNames g of r) (keeps : KeepsRule g of kept)
    (agrees : Includes g kept includes) (room : length g.nodes < limit) where
  sources_below : are_below (length g.nodes) kept.sources ≡ true
  sources_below = ap (are_below (length g.nodes)) keeps.sources ∙ scanned_below g reading of is

  first_paths : first_scanned r ≡ paths_of g kept.sources
  first_paths = sym (ap (paths_of g) keeps.sources ∙ names.scanned)

  files_few : length kept.files < limit
  files_few =
      let le = few_once g reading kept.files
      (files_once g reading kept.sources kept.left_out kept.found kept.files keeps.follows.files
      (sources_once g of kept keeps) keeps.nodes sources_below)
      (files_below g reading kept.sources kept.left_out kept.found kept.files keeps.follows.files
      (sources_once g of kept keeps) keeps.nodes sources_below) in
      omega (arith, le, room)

  seen_first : of.scans ≡ true → Sees g reading kept.left_out kept.sources (first_scanned r ++ left_out r)
  seen_first scans n lt =
      has_append (path_of g.nodes n) (first_scanned r) (left_out r)
      ∙ ap (λ l. has (path_of g.nodes n) l || has (path_of g.nodes n) (left_out r)) first_paths
      ∙ ap (λ c. c || has (path_of g.nodes n) (left_out r)) (has_stands g reading kept.sources n sources_below lt)
      ∙ ap (λ c. stands kept.sources n || c) (sym (names.left_out scans n lt)
      ∙ ap (λ l. stands l n) (sym keeps.left_out))
      ∙ or_swap (stands kept.sources n) (stands kept.left_out n)

  scan_by : (b : Bool) → of.scans ≡ b → scan_list limit includes r ≡ paths_of g kept.files
  scan_by true e =
      ap (breadth_first includes limit (first_scanned r ++ left_out r)) first_paths
      ∙ walks g reading kept.sources kept.left_out kept.found kept.files keeps.follows.files
      (sources_once g of kept keeps) keeps.nodes sources_below includes agrees
      (first_scanned r ++ left_out r) limit (seen_first e) files_few
  scan_by false e =
      let none : kept.sources ≡ [] = keeps.sources ∙ unscanned_sources g of e in
      let files = no_files kept.sources kept.left_out kept.found kept.files keeps.follows.files none in
      ap (breadth_first includes limit (first_scanned r ++ left_out r)) (first_paths ∙ ap (paths_of g) none)
      ∙ nothing_first limit (first_scanned r ++ left_out r) ∙ ap (paths_of g) (sym files)
    where
      nothing_first : (n : ℕ) (seen : List Path) → breadth_first includes n seen [] ≡ []
      nothing_first zero seen = refl
      nothing_first (suc n) seen = refl

  -- the files that are scanned
  pub scan_is : scan_list limit includes r ≡ paths_of g kept.files
  scan_is = scan_by of.scans refl

  named_seen : Sees g reading [] kept.named (declared_paths r)
  named_seen n lt =
      ap (λ l. has (path_of g.nodes n) l) (sym names.named)
      ∙ has_stands g reading (named_of of) n (named_below g reading of is) lt
      ∙ ap (λ l. stands l n) (sym keeps.named)

  has_same : (p : Path) → Among p (paths_of g kept.files) → (c d : Bool) → has p (declared_paths r) ≡ c →
      has p (left_out r) ≡ d → (c || d) ≡ c
  has_same p m true d e f = refl
  has_same p m false false e f = refl
  has_same p m false true e f =
      let scanned = listed_scanned includes r limit (subst (λ l. Among p l) (sym scan_is) m) in
      true_false (sym (among_has (left_cases includes r scanned (has_among p (left_out r) f))) ∙ e)

  all_below : are_below (length g.nodes) kept.files ≡ true
  all_below = files_below g reading kept.sources kept.left_out kept.found kept.files keeps.follows.files
      (sources_once g of kept keeps) keeps.nodes sources_below

  -- and the dependencies
  pub deps_is : reach limit includes r ≡ paths_of g kept.deps
  deps_is =
      ap (λ l. declared_paths r ++ unseen (declared_paths r ++ left_out r) l) scan_is
      ∙ ap (λ l. declared_paths r ++ l) (unseen_same (paths_of g kept.files) (declared_paths r ++ left_out r)
      (declared_paths r)
      (λ p m. has_append p (declared_paths r) (left_out r)
      ∙ has_same p m (has p (declared_paths r)) (has p (left_out r)) refl refl))
      ∙ ap (λ l. l ++ unseen (declared_paths r) (paths_of g kept.files))
      (sym names.named ∙ ap (paths_of g) (sym keeps.named))
      ∙ sym (put_paths g reading [] kept.named kept.files (declared_paths r) all_below named_seen)
      ∙ ap (paths_of g) (sym keeps.follows.deps)

  pub lists_are_reach : AreReach g limit kept includes r
  lists_are_reach = record {
    files = scan_is;
    deps = deps_is;
    room = subst (λ (n : ℕ). n < limit) (sym (ap length scan_is ∙ length-map kept.files (path_of g.nodes))) files_few;
  }
