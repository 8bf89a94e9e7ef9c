-- What a scan finds is what a file includes, by paths.
use Rattle.std.proofs.Common.{◌≡◌, ◌<◌, ◌≤◌, ◌∙◌, ◌++◌, ◌&&◌, inl, inr, ℕ, zero, suc, true, Bool, List, [], ◌∷◌, Option, Some, None, length, refl, sym, ap, arith, lt-ltb, ltb-true, length-append, option_map}
use Rattle.std.specs.Prelude.{slice_get, nat_lt, unwrap_or}
use Rattle.std.proofs.lemmas.Bool.{and_parts, and_from}
use Rattle.std.specs.List.{filter_map}
use Rattle.scons_base.specs.declared.ids.NodeId.{NodeId}
use Rattle.rule_graph.specs.declared.rule.Rule as declared
use Rattle.rule_graph.specs.Graphs.{RuleGraph, path_of}
use Rattle.rule_graph.specs.Rules.{are_below}
use Rattle.world_api.specs.Act.{Content}
use Rattle.build_model.specs.Contents.{includes_of}
use Rattle.build_model.specs.Reach.{IsScanned, scans_source, scans_found, first_scanned}
use Rattle.build_model.specs.Rules.{Path, Rule, Among, here}
use Rattle.build_model.proofs.Lists.{among_same}
use Rattle.build_means.specs.Finds.{finds, found_for, search_path}
use Rattle.build_means.specs.Grown.{Begun, begun_setting, copy_in, or_copy_in, rule_numbered, IsCopyOf}
use Rattle.build_means.specs.Rules.{paths_of, rule_in, rule_with}
use Rattle.build_means.proofs.Growing.{get_either, paths_stay}
use Rattle.build_means.proofs.Lists.{none_some, some_same, at_place}
use Rattle.build_means.proofs.Readings.{rule_with_target}
use Rattle.build_files.specs.Kept.{includes_in}
use Rattle.build_files.specs.Searched.{meant, AreNodesOf, GrowsTo}
use Rattle.plan_means.specs.Planning.{IsGraphNow}

pub path_at : (g : RuleGraph) (node : NodeId) (path : Path) → slice_get g.nodes node.0 ≡ Some path → path_of g.nodes node ≡ path
path_at g node path at = ap (λ (x : Option Path). unwrap_or x []) at

-- ---- what was found is what the file includes

-- the nodes of these paths have these paths
pub nodes_paths : (g : RuleGraph) (paths : List Path) (nodes : List NodeId) → AreNodesOf g paths nodes → paths_of g nodes ≡ paths
nodes_paths g [] [] is = refl
nodes_paths g [] (n ∷ nodes) is = elim is [ ]
nodes_paths g (p ∷ paths) [] is = elim is [ ]
nodes_paths g (p ∷ paths) (n ∷ nodes) is =
    ap (λ (q : Path). q ∷ paths_of g nodes) (path_at g n p is.0) ∙ ap (λ (qs : List Path). p ∷ qs) (nodes_paths g paths nodes is.1)

is_under : (nodes : List Path) (i : ℕ) (path : Path) → slice_get nodes i ≡ Some path → i < length nodes
is_under [] i path e = none_some e
is_under (q ∷ nodes) zero path e = omega arith
is_under (q ∷ nodes) (suc i) path e = let under = is_under nodes i path e in omega arith

is_below : (nodes : List Path) (i : ℕ) (path : Path) → slice_get nodes i ≡ Some path → nat_lt i (length nodes) ≡ true
is_below nodes i path e = lt-ltb i (length nodes) (is_under nodes i path e)

pub nodes_below : (g : RuleGraph) (paths : List Path) (nodes : List NodeId) → AreNodesOf g paths nodes → are_below (length g.nodes) nodes ≡ true
nodes_below g [] [] is = refl
nodes_below g [] (n ∷ nodes) is = elim is [ ]
nodes_below g (p ∷ paths) [] is = elim is [ ]
nodes_below g (p ∷ paths) (n ∷ nodes) is =
    ap (λ (b : Bool). b && are_below (length g.nodes) nodes) (is_below g.nodes n.0 p is.0) ∙ nodes_below g paths nodes is.1

-- a target of a rule
pub first_target : (g : RuleGraph) (ids : List NodeId) → 0 < length ids → (p : Path) × Among p (paths_of g ids)
first_target g [] some = absurd (omega (arith, some))
first_target g (n ∷ ids) some = (path_of g.nodes n, here)

module _ (b : Begun) (g : RuleGraph) (now : IsGraphNow b g) (number : ℕ) (r : Rule) (is : rule_numbered b g number ≡ Some r) where
  paths_at : (targets : List Path) (path : Path) (x : Option declared.Rule) → Among path targets →
      ((q : Path) → Among q targets → rule_with b.graph q ≡ x) →
      search_path b.graph targets ≡ unwrap_or (option_map (λ (d : declared.Rule). d.paths) x) []
  paths_at [] path x m same = elim m [ ]
  paths_at (q ∷ targets) path x m same =
      ap (λ (o : Option declared.Rule). unwrap_or (option_map (λ d. d.paths) o) []) (same q here)

  declared_paths : (of : declared.Rule) (path : Path) → slice_get b.graph.rules number ≡ Some of → Among path r.targets →
      search_path b.graph r.targets ≡ of.paths
  declared_paths of path at m =
      let rule_is = now.read.named.each_rule number of at in
      let same : rule_in g of ≡ r = some_same (ap (λ o. or_copy_in g o (slice_get g.rules number)) (sym at) ∙ is) in
      let paths : r.targets ≡ paths_of b.graph of.targets =
      ap (λ (x : Rule). x.targets) (sym same) ∙ paths_stay b g now.read now.reading now.grown of.targets rule_is.targets in
      paths_at r.targets path (Some of) m
      (λ q n. rule_with_target b.graph now.read (at_place b.graph.rules number at) (among_same paths n))

  -- a copy scans nothing
  none_scanned : (includes : Path → List Path) → first_scanned r ≡ [] → {p : Path} → IsScanned includes r p → ⊥
  none_scanned includes none (scans_source m) = elim (among_same none m) [ ]
  none_scanned includes none (scans_found q s m out) = none_scanned includes none s

  copy_scans_none : (of : declared.Rule) → slice_get b.graph.rules number ≡ None → slice_get g.rules number ≡ Some of → IsCopyOf b g of →
      first_scanned r ≡ []
  copy_scans_none of none at copy =
      let same : copy_in g of ≡ r =
      some_same (sym (ap (λ o. or_copy_in g o (slice_get g.rules number)) none ∙ ap (option_map (copy_in g)) at) ∙ is) in
      ap first_scanned (sym (sym copy.is ∙ same))

  -- the directories of a rule for which a file is scanned are those that lead to its includes
  pub paths_are : (of : declared.Rule) (path : Path) (includes : Path → List Path) (p : Path) → slice_get g.rules number ≡ Some of →
      Among path r.targets → IsScanned includes r p → search_path b.graph r.targets ≡ of.paths
  paths_are of path includes p at m scans =
      elim (get_either b.graph.rules now.grown.copies number of (sym (ap (λ rules. slice_get rules number) now.grown.rules) ∙ at)) [
        | inl e ↦ declared_paths of path e m
        | inr h ↦ absurd (none_scanned includes (copy_scans_none of h.0 at (now.grown.each_copy of h.1)) scans)
      ]

  pub includes_by : (content : Content) (paths : List Path) (p : Path) → search_path b.graph r.targets ≡ paths →
      includes_of ((begun_setting b).includes r p) (Some content) ≡ meant b paths p (includes_in content)
  unfolding finds
  includes_by None paths p same = refl
  includes_by (Some bytes) paths p same = ap (λ ps. filter_map (found_for b.graph b.tree ps p) (includes_in (Some bytes))) same

-- ---- more nodes

below_more : (m n : ℕ) (nodes : List NodeId) → m ≤ n → are_below m nodes ≡ true → are_below n nodes ≡ true
below_more m n [] l e = refl
below_more m n (x ∷ nodes) l e =
    let both = and_parts (nat_lt x.0 m) (are_below m nodes) e in
    let first : x.0 < m = ltb-true x.0 m both.0 in
    and_from (nat_lt x.0 n) (are_below n nodes) (lt-ltb x.0 n (omega arith)) (below_more m n nodes l both.1)

pub below_grown : (g h : RuleGraph) (nodes : List NodeId) → GrowsTo g h → are_below (length g.nodes) nodes ≡ true →
    are_below (length h.nodes) nodes ≡ true
below_grown g h nodes grows e =
    let more : length h.nodes ≡ length (g.nodes ++ grows.more) = ap length grows.nodes in
    below_more (length g.nodes) (length h.nodes) nodes (omega (arith, more, length-append g.nodes grows.more)) e
