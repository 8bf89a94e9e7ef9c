-- The graph of a build grows while files are scanned: a plan that is tied over it stays so.
use Rattle.std.specs.Prelude.{◌≡◌, List, ◌++◌}
use Rattle.scons_base.specs.declared.ids.NodeId.{NodeId}
use Rattle.rule_graph.specs.declared.rule.Rule as declared
use Rattle.rule_graph.specs.Graphs.{RuleGraph}
use Rattle.task_plan.specs.Plans.{Planned}
use Rattle.build_model.specs.Rules.{Path, Tree}
use Rattle.build_model.specs.Steps.{Step}
use Rattle.build_means.specs.Grown.{Begun}
use Rattle.plan_means.specs.Planning.{IsGraphNow}
use Rattle.plan_means.specs.Ties.{Ties}

-- Nodes and rules were put behind those of a graph.
pub record Grows (g h : RuleGraph) : Type 0 where
  pub more : List Path
  pub nodes : h.nodes ≡ g.nodes ++ more
  pub added : List declared.Rule
  pub rules : h.rules ≡ g.rules ++ added

abbrev pub GrowthKeepsTies : Type 0
GrowthKeepsTies = (b : Begun) (g h : RuleGraph) (requested : List NodeId) (t : Tree) (past : List Step)
    (plan : Planned) →
    IsGraphNow b g → IsGraphNow b h → Grows g h → Ties b g requested t past plan → Ties b h requested t past plan
