-- Nodes that are put behind others, by their paths: what wasn't seen, in order.
use Rattle.std.proofs.Common.{◌≡◌, ◌<◌, Bool, true, false, ◌||◌, List, [], ◌∷◌, ◌++◌, length, refl, sym, ap, ◌∙◌, ltb-true}
use Rattle.std.specs.Prelude.{nat_eq, nat_lt, if◌then◌else◌}
use Rattle.std.specs.Str.{bytes_eq}
use Rattle.std.proofs.lemmas.Bool.Decides.{Decides-eqb}
use Rattle.std.proofs.lemmas.Slice.Eq.{bytes_eq-Decides}
use Rattle.std.proofs.lemmas.List.{map-append, append-nil, append_assoc}
use Rattle.std.proofs.lemmas.List.Folds.{list_any-append}
use Rattle.scons_base.specs.declared.ids.NodeId.{NodeId}
use Rattle.rule_graph.specs.Graphs.{RuleGraph, path_of}
use Rattle.rule_graph.specs.Rules.{are_below}
use Rattle.node_tree.specs.Nodes.{number_of}
use Rattle.build_model.specs.Rules.{Path, Among, here, there}
use Rattle.build_model.specs.Reach.{has, unseen}
use Rattle.build_model.proofs.Lists.{true_false, some_same}
use Rattle.build_means.specs.Rules.{IsReading, paths_of}
use Rattle.build_means.proofs.Lists.{and_both}
use Rattle.build_means.proofs.Readings.{node_path}
use Rattle.task_plan.specs.Named.{stands, put_all}

-- tests with `or`
pub or_nothing : (a : Bool) → (a || false) ≡ a
or_nothing true = refl
or_nothing false = refl

pub or_swap : (a b : Bool) → (a || b) ≡ (b || a)
or_swap true true = refl
or_swap true false = refl
or_swap false true = refl
or_swap false false = refl

or_one : (b c : Bool) → (if b then true else c) ≡ (b || c)
or_one true c = refl
or_one false c = refl

or_more : (e o t : Bool) → (if e then true else (o || t)) ≡ (o || (t || (e || false)))
or_more true true t = refl
or_more true false true = refl
or_more true false false = refl
or_more false true t = refl
or_more false false true = refl
or_more false false false = refl

pub has_append : (p : Path) (xs ys : List Path) → has p (xs ++ ys) ≡ (has p xs || has p ys)
has_append p [] ys = refl
has_append p (x ∷ xs) ys = by (bytes_eq p x) (has_append p xs ys)
  where
    by : (b : Bool) → has p (xs ++ ys) ≡ (has p xs || has p ys) →
        (if b then true else has p (xs ++ ys)) ≡ ((if b then true else has p xs) || has p ys)
    by true e = refl
    by false e = e

unseen_by : (p : Path) (xs seen other : List Path) (b c : Bool) → b ≡ c → unseen seen xs ≡ unseen other xs →
    unseen (p ∷ seen) xs ≡ unseen (p ∷ other) xs →
    (if b then unseen seen xs else p ∷ unseen (p ∷ seen) xs)
    ≡ (if c then unseen other xs else p ∷ unseen (p ∷ other) xs)
unseen_by p xs seen other true true e f g = f
unseen_by p xs seen other false false e f g = ap (λ l. p ∷ l) g
unseen_by p xs seen other true false e f g = true_false e
unseen_by p xs seen other false true e f g = true_false (sym e)

-- only which of the paths were seen counts
pub unseen_same : (xs seen other : List Path) → ((p : Path) → Among p xs → has p seen ≡ has p other) →
    unseen seen xs ≡ unseen other xs
unseen_same [] seen other h = refl
unseen_same (p ∷ xs) seen other h =
    unseen_by p xs seen other (has p seen) (has p other) (h p here) (unseen_same xs seen other (λ q m. h q (there m)))
    (unseen_same xs (p ∷ seen) (p ∷ other) (λ q m. ap (λ c. if bytes_eq q p then true else c) (h q (there m))))

module _ (g : RuleGraph) (reading : IsReading g) where
  same_paths_by : (n m : NodeId) (b : Bool) → nat_eq n.0 m.0 ≡ b → n.0 < length g.nodes → m.0 < length g.nodes →
      (c : Bool) → bytes_eq (path_of g.nodes n) (path_of g.nodes m) ≡ c → c ≡ b
  same_paths_by n m true e nlt mlt c f =
      let same : n.0 ≡ m.0 = (Decides-eqb n.0 m.0).0 e in
      sym f ∙ (bytes_eq-Decides (path_of g.nodes n) (path_of g.nodes m)).1
      (ap (λ k. path_of g.nodes (record { 0 = k })) same)
  same_paths_by n m false e nlt mlt false f = refl
  same_paths_by n m false e nlt mlt true f =
      let one = reading.apart n.0 (path_of g.nodes n) (node_path g reading n nlt) in
      let two = reading.apart m.0 (path_of g.nodes m) (node_path g reading m mlt) in
      let paths = (bytes_eq-Decides (path_of g.nodes n) (path_of g.nodes m)).0 f in
      let same : n.0 ≡ m.0 = some_same (sym one ∙ ap (number_of g.nodes) paths ∙ two) in
      sym ((Decides-eqb n.0 m.0).1 same) ∙ e

  -- two nodes are one where their paths are
  pub same_paths : (n m : NodeId) → n.0 < length g.nodes → m.0 < length g.nodes →
      bytes_eq (path_of g.nodes n) (path_of g.nodes m) ≡ nat_eq n.0 m.0
  same_paths n m nlt mlt = same_paths_by n m (nat_eq n.0 m.0) refl nlt mlt
      (bytes_eq (path_of g.nodes n) (path_of g.nodes m)) refl

  pub first_below : (x : NodeId) (nodes : List NodeId) → are_below (length g.nodes) (x ∷ nodes) ≡ true →
      x.0 < length g.nodes
  first_below x nodes h =
      ltb-true x.0 (length g.nodes) (and_both (nat_lt x.0 (length g.nodes)) (are_below (length g.nodes) nodes) h).0

  pub rest_below : (x : NodeId) (nodes : List NodeId) → are_below (length g.nodes) (x ∷ nodes) ≡ true →
      are_below (length g.nodes) nodes ≡ true
  rest_below x nodes h = (and_both (nat_lt x.0 (length g.nodes)) (are_below (length g.nodes) nodes) h).1

  -- a node stands among others where its path does among theirs
  pub has_stands : (nodes : List NodeId) (n : NodeId) → are_below (length g.nodes) nodes ≡ true → n.0 < length g.nodes →
      has (path_of g.nodes n) (paths_of g nodes) ≡ stands nodes n
  has_stands [] n below lt = refl
  has_stands (x ∷ nodes) n below lt =
      or_one (bytes_eq (path_of g.nodes n) (path_of g.nodes x)) (has (path_of g.nodes n) (paths_of g nodes))
      ∙ ap (λ c. bytes_eq (path_of g.nodes n) (path_of g.nodes x) || c)
      (has_stands nodes n (rest_below x nodes below) lt)
      ∙ ap (λ c. c || stands nodes n) (same_paths n x lt (first_below x nodes below))

  -- the paths that were seen are those of nodes that are left out or stand before
  abbrev pub Sees : List NodeId → List NodeId → List Path → Type 0
  Sees out before seen = (n : NodeId) → n.0 < length g.nodes → has (path_of g.nodes n)
      seen ≡ (stands out n || stands before n)

  sees_more : (out before : List NodeId) (x : NodeId) (seen : List Path) → x.0 < length g.nodes → Sees out before seen →
      Sees out (before ++ x ∷ []) (path_of g.nodes x ∷ seen)
  sees_more out before x seen lt sees n nlt =
      ap (λ c. if c then true else has (path_of g.nodes n) seen) (same_paths n x nlt lt)
      ∙ ap (λ c. if nat_eq n.0 x.0 then true else c) (sees n nlt)
      ∙ or_more (nat_eq n.0 x.0) (stands out n) (stands before n)
      ∙ ap (λ c. stands out n || c) (sym (list_any-append (λ m. nat_eq n.0 m.0) before (x ∷ [])))

  put_by : (out before : List NodeId) (x : NodeId) (nodes : List NodeId) (seen : List Path) (b c h : Bool) →
      h ≡ (b || c) →
      paths_of g (put_all out before nodes) ≡ paths_of g before ++ unseen seen (paths_of g nodes) →
      paths_of g (put_all out (before ++ x ∷ []) nodes) ≡ paths_of g (before ++ x ∷ []) ++ unseen
      (path_of g.nodes x ∷ seen) (paths_of g nodes) →
      paths_of g (put_all out (if b then before else (if c then before else before ++ x ∷ [])) nodes)
      ≡ paths_of g before ++ (if h then unseen seen (paths_of g nodes) else path_of g.nodes x ∷ unseen
      (path_of g.nodes x ∷ seen) (paths_of g nodes))
  put_by out before x nodes seen true c true e stay more = stay
  put_by out before x nodes seen true c false e stay more = true_false (sym e)
  put_by out before x nodes seen false true true e stay more = stay
  put_by out before x nodes seen false true false e stay more = true_false (sym e)
  put_by out before x nodes seen false false true e stay more = true_false e
  put_by out before x nodes seen false false false e stay more =
      more
      ∙ ap (λ l. l ++ unseen (path_of g.nodes x ∷ seen) (paths_of g nodes))
      (map-append (path_of g.nodes) before (x ∷ []))
      ∙ append_assoc (paths_of g before) (path_of g.nodes x ∷ []) (unseen (path_of g.nodes x ∷ seen) (paths_of g nodes))

  -- nodes that are put behind others have the paths that weren't seen
  pub put_paths : (out before nodes : List NodeId) (seen : List Path) → are_below (length g.nodes) nodes ≡ true →
      Sees out before seen →
      paths_of g (put_all out before nodes) ≡ paths_of g before ++ unseen seen (paths_of g nodes)
  put_paths out before [] seen below sees = sym (append-nil (paths_of g before))
  put_paths out before (x ∷ nodes) seen below sees =
      let lt = first_below x nodes below in
      let rest = rest_below x nodes below in
      put_by out before x nodes seen (stands out x) (stands before x) (has (path_of g.nodes x) seen) (sees x lt)
      (put_paths out before nodes seen rest sees)
      (put_paths out (before ++ x ∷ []) nodes (path_of g.nodes x ∷ seen) rest (sees_more out before x seen lt sees))
