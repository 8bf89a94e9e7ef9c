-- The rule of a number, by its paths.
use Rattle.std.proofs.Common.{◌≡◌, inl, inr, ℕ, true, List, [], ◌∷◌, Option, Some, None, refl, sym, ap, ◌∙◌, is_some, option_map}
use Rattle.std.specs.Prelude.{slice_get}
use Rattle.std.specs.Option.{option_and_then, unwrap_or}
use Rattle.node_tree.specs.Nodes.{number_of}
use Rattle.rule_graph.specs.declared.rule.Rule as declared
use Rattle.rule_graph.specs.Graphs.{RuleGraph}
use Rattle.rule_graph.specs.Rules.{rule_of}
use Rattle.build_model.specs.Rules.{Path, Rule, Among, here}
use Rattle.build_model.proofs.Lists.{none_some, some_same, among_same}
use Rattle.build_means.specs.Grown.{Begun, IsCopyOf, rule_numbered, or_copy_in, copy_in}
use Rattle.build_means.specs.Logs.{lines_for}
use Rattle.build_means.specs.Rules.{paths_of, rule_in, rule_with, rule_for}
use Rattle.build_means.proofs.Growing.{get_either, only, paths_stay}
use Rattle.build_means.proofs.Lists.{at_place}
use Rattle.build_means.proofs.Readings.{rule_with_target}
use Rattle.build_files.specs.Leftovers.{has_rule, is_made}
use Rattle.plan_means.specs.Planning.{IsGraphNow}
use Rattle.plan_means.proofs.Names.{is_named}
use Rattle.plan_means.proofs.Single.{numbered_stands}

-- what has a rule by its path is made
made_by : (g : RuleGraph) (path : Path) (node : Option ℕ) (made : Option ℕ) (x : declared.Rule) → number_of g.nodes path ≡ node →
    option_and_then (rule_of g.rules) node ≡ made →
    option_and_then (slice_get g.rules) made ≡ Some x → has_rule g.rules node ≡ true
made_by g path None None x e f h = none_some h
made_by g path None (Some number) x e f h = none_some f
made_by g path (Some node) None x e f h = none_some h
made_by g path (Some node) (Some number) x e f h = ap is_some f

pub with_made : (g : RuleGraph) (path : Path) (x : declared.Rule) → rule_with g path ≡ Some x → is_made g path ≡ true
with_made g path x h =
    made_by g path (number_of g.nodes path) (option_and_then (rule_of g.rules) (number_of g.nodes path)) x refl refl h

module _ (b : Begun) (g : RuleGraph) (now : IsGraphNow b g) (number : ℕ) (r : Rule) (is : rule_numbered b g number ≡ Some r) where
  -- its targets are made by a rule of the graph
  pub targets_made : (path : Path) → Among path r.targets → is_made g path ≡ true
  targets_made path m =
      let stands = numbered_stands b g now number r is in
      let named = is_named b g now.grown now.reading number stands.of stands.at in
      let same : named.rule ≡ r = some_same (sym named.is ∙ is) in
      let target : Among path (paths_of g stands.of.targets) =
      among_same (sym (named.names.targets ∙ ap (λ (x : Rule). x.targets) same)) m in
      with_made g path stands.of (rule_with_target g now.reading (at_place g.rules number stands.at) target)

  lines_at : (targets : List Path) (path : Path) (x : Option declared.Rule) → Among path targets →
      ((q : Path) → Among q targets → rule_with b.graph q ≡ x) →
      unwrap_or (option_map (λ (d : declared.Rule). d.lines) (rule_for b.graph targets)) []
      ≡ unwrap_or (option_map (λ (d : declared.Rule). d.lines) x) []
  lines_at [] path x m same = elim m [ ]
  lines_at (q ∷ targets) path x m same =
      ap (λ (o : Option declared.Rule). unwrap_or (option_map (λ d. d.lines) o) []) (same q here)

  declared_lines : (of : declared.Rule) (path : Path) → slice_get b.graph.rules number ≡ Some of → slice_get g.rules number ≡ Some of →
      Among path r.targets → of.lines ≡ lines_for b.graph r
  declared_lines of path at there_too m =
      let rule_is = now.read.named.each_rule number of at in
      let same : rule_in g of ≡ r = some_same (ap (λ o. or_copy_in g o (slice_get g.rules number)) (sym at) ∙ is) in
      let paths : r.targets ≡ paths_of b.graph of.targets =
      ap (λ (x : Rule). x.targets) (sym same) ∙ paths_stay b g now.read now.reading now.grown of.targets rule_is.targets in
      sym (lines_at r.targets path (Some of) m
      (λ q n. rule_with_target b.graph now.read (at_place b.graph.rules number at) (among_same paths n)))

  copied_lines : (of : declared.Rule) (path : Path) → slice_get b.graph.rules number ≡ None → slice_get g.rules number ≡ Some of →
      Among path r.targets → IsCopyOf b g of → of.lines ≡ lines_for b.graph r
  copied_lines of path none at m copy =
      let same : copy_in g of ≡ r =
      some_same (sym (ap (λ o. or_copy_in g o (slice_get g.rules number)) none ∙ ap (option_map (copy_in g)) at) ∙ is) in
      let targets : r.targets ≡ copy.path ∷ [] = ap (λ (x : Rule). x.targets) (sym same ∙ copy.is) in
      copy.lines ∙ sym (lines_at r.targets path None m
      (λ q n. ap (rule_with b.graph) (only b g now.read now.reading now.grown (among_same targets n)) ∙ copy.undeclared))

  -- and its lines are those of the model's rule
  pub lines_are : (of : declared.Rule) (path : Path) → slice_get g.rules number ≡ Some of → Among path r.targets →
      of.lines ≡ lines_for b.graph r
  lines_are of path at m =
      elim (get_either b.graph.rules now.grown.copies number of
      (sym (ap (λ rules. slice_get rules number) now.grown.rules) ∙ at)) [
        | inl e ↦ declared_lines of path e at m
        | inr h ↦ copied_lines of path h.0 at m (now.grown.each_copy of h.1)
      ]
