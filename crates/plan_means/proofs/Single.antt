-- A rule of the model has one number in the graph.
use Rattle.std.proofs.Common.{◌≡◌, ◌<◌, ℕ, true, List, [], ◌∷◌, length, Option, Some, None, refl, sym, ap, ◌∙◌, arith}
use Rattle.std.specs.Prelude.{slice_get, nat_eq}
use Rattle.std.proofs.lemmas.Bool.Decides.{Decides-eqb}
use Rattle.scons_base.specs.declared.ids.NodeId.{NodeId}
use Rattle.rule_graph.specs.declared.rule.Rule as declared
use Rattle.rule_graph.specs.Graphs.{RuleGraph, path_of}
use Rattle.rule_graph.specs.Rules.{rule_of, IsRule}
use Rattle.task_plan.specs.Named.{stands}
use Rattle.task_plan.proofs.ListLemmas.{get-front}
use Rattle.build_model.specs.Rules.{Rule, Among, here}
use Rattle.build_model.specs.Reach.{has}
use Rattle.build_model.proofs.Lists.{none_some, some_same, among_has, among_same}
use Rattle.build_means.specs.Rules.{paths_of}
use Rattle.build_means.specs.Grown.{Begun, rule_numbered, or_copy_in}
use Rattle.build_means.proofs.Lists.{there_any, map_among}
use Rattle.plan_means.specs.Planning.{IsGraphNow}
use Rattle.plan_means.proofs.Seen.{has_stands}
use Rattle.plan_means.proofs.Names.{is_named}
use Rattle.plan_means.proofs.Knowing.{stands_among, one_below}

-- the rule of the graph with a number
pub record StandsAt (g : RuleGraph) (number : ℕ) : Type 0 where
  pub of : declared.Rule
  pub at : slice_get g.rules number ≡ Some of

module _ (b : Begun) (g : RuleGraph) (now : IsGraphNow b g) where
  stands_by : (number : ℕ) (x : Rule) (read here_now : Option declared.Rule) →
      slice_get b.graph.rules number ≡ read → slice_get g.rules number ≡ here_now →
      or_copy_in g read here_now ≡ Some x → StandsAt g number
  stands_by number x (Some of) o e f is =
      record {
        of = of;
        at = ap (λ rules. slice_get rules number) now.grown.rules
            ∙ get-front b.graph.rules now.grown.copies number of e;
      }
  stands_by number x None (Some of) e f is = record { of = of; at = f }
  stands_by number x None None e f is = none_some is

  -- what is numbered stands in the graph
  pub numbered_stands : (number : ℕ) (x : Rule) → rule_numbered b g number ≡ Some x → StandsAt g number
  numbered_stands number x is = stands_by number x (slice_get b.graph.rules number) (slice_get g.rules number) refl
      refl is

  first_of : (of : declared.Rule) (number : ℕ) → slice_get g.rules number ≡ Some of → (targets : List NodeId) →
      of.targets ≡ targets → 0 < length targets →
      (node : NodeId) × (stands of.targets node ≡ true)
  first_of of number at [] e lt = absurd (let no : 0 < 0 = lt in omega arith)
  first_of of number at (n ∷ targets) e lt =
      (n, ap (λ (l : List NodeId). stands l n) e ∙ first_stands n targets)
    where
      first_stands : (n : NodeId) (targets : List NodeId) → stands (n ∷ targets) n ≡ true
      first_stands n targets = there_any (λ (m : NodeId). nat_eq n.0 m.0) (let m : Among n (n ∷ targets) = here in m)
          ((Decides-eqb n.0 n.0).1 refl)

  pub target_of : (of : declared.Rule) (number : ℕ) (node : NodeId) → slice_get g.rules number ≡ Some of →
      stands of.targets node ≡ true → rule_of g.rules node.0 ≡ Some number
  target_of of number node at h =
      now.reading.single number node.0 of at
      (there_any (λ (t : NodeId). nat_eq t.0 node.0) (stands_among of.targets node h)
      ((Decides-eqb node.0 node.0).1 refl))

  -- two numbers of a rule are one
  pub one_number : (n m : ℕ) (x : Rule) → rule_numbered b g n ≡ Some x → rule_numbered b g m ≡ Some x → n ≡ m
  one_number n m x e f =
      let one = numbered_stands n x e in
      let two = numbered_stands m x f in
      let one_is = now.reading.named.each_rule n one.of one.at in
      let two_is = now.reading.named.each_rule m two.of two.at in
      let one_named = is_named b g now.grown now.reading n one.of one.at in
      let two_named = is_named b g now.grown now.reading m two.of two.at in
      let target = first_of one.of n one.at one.of.targets refl one_is.has_target in
      let lt : target.0.0 < length g.nodes = below one.of target.0 one_is target.1 in
      let rules : one_named.rule ≡ two_named.rule = some_same (sym one_named.is ∙ e)
      ∙ sym (some_same (sym two_named.is ∙ f)) in
      let targets : paths_of g one.of.targets ≡ paths_of g two.of.targets = one_named.names.targets
      ∙ ap (λ r. r.targets) rules ∙ sym two_named.names.targets in
      let among : has (path_of g.nodes target.0) (paths_of g two.of.targets) ≡ true =
      among_has (among_same targets (map_among (path_of g.nodes) (stands_among one.of.targets target.0 target.1))) in
      let also : stands two.of.targets target.0 ≡ true = sym
      (has_stands g now.reading two.of.targets target.0 two_is.targets lt) ∙ among in
      some_same (sym (target_of one.of n target.0 one.at target.1) ∙ target_of two.of m target.0 two.at also)
    where
      below : (of : declared.Rule) (node : NodeId) → IsRule (length g.nodes) of → stands of.targets node ≡ true →
          node.0 < length g.nodes
      below of node is h = one_below g of.targets node is.targets h
