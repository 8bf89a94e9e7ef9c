-- A plan that is told what a file includes stays tied.
use Rattle.std.specs.Prelude.{◌≡◌, ◌⊎◌, ◌<◌, ℕ, true, List, Some, length}
use Rattle.scons_base.specs.declared.ids.NodeId.{NodeId}
use Rattle.scons_base.specs.declared.ids.RuleId.{RuleId}
use Rattle.rule_graph.specs.Rules.{are_below}
use Rattle.rule_graph.specs.Graphs.{RuleGraph, path_of}
use Rattle.task_plan.specs.Plans.{Planned, IsScannedNext}
use Rattle.task_plan.specs.Rooted.{news_of}
use Rattle.task_plan.specs.declared.want.PlanEvent.TheVariants.{Scanned}
use Rattle.build_model.specs.Rules.{Tree, Rule}
use Rattle.build_model.specs.Contents.{in_tree, found_in}
use Rattle.build_model.specs.Steps.{Step, settled, IsReady, IsMissing}
use Rattle.build_means.specs.Rules.{paths_of}
use Rattle.build_means.specs.Grown.{Begun, begun_setting, rule_numbered}
use Rattle.plan_means.specs.Planning.{IsGraphNow, IsStep}
use Rattle.plan_means.specs.Ties.{Ties}
use Rattle.plan_means.specs.Beginning.{AreLookedFor}

-- A file may be scanned for the rule with this number: it waits for nothing, or is missing, so no action that runs
-- writes it.
pub record MayBeScanned (b : Begun) (g : RuleGraph) (t : Tree) (past : List Step) (number : ℕ) (file : NodeId) : Type
    0 where
  pub rule : Rule
  pub is : rule_numbered b g number ≡ Some rule
  pub node : file.0 < length g.nodes
  pub ready : IsReady (begun_setting b) t (settled past) (path_of g.nodes file)
      ⊎ IsMissing (begun_setting b) t (path_of g.nodes file)

-- So it is of a file that a tied plan wants scanned next.
abbrev pub ScannedMayBe : Type 0
ScannedMayBe = (b : Begun) (g : RuleGraph) (requested : List NodeId) (t : Tree) (past : List Step) (plan : Planned)
    (number : ℕ) (file : NodeId) → IsGraphNow b g → Ties b g requested t past plan → IsScannedNext plan number file →
    MayBeScanned b g t past number file

-- What was found in a file for a rule is what it includes there: nodes of the graph, of which those that come to the
-- rule were looked for, and all that their rules require and name.
pub record IsFoundIn (b : Begun) (g : RuleGraph) (t : Tree) (plan : Planned) (rule : RuleId) (file : NodeId)
    (found : List NodeId) : Type 0 where
  pub nodes : are_below (length g.nodes) found ≡ true
  pub includes : (r : Rule) → rule_numbered b g rule.0 ≡ Some r →
      found_in (begun_setting b) (in_tree t) r (path_of g.nodes file) ≡ paths_of g found
  pub looked : AreLookedFor b g (news_of plan (Scanned rule found))

abbrev pub ScansKeepTies : Type 0
ScansKeepTies = (b : Begun) (g : RuleGraph) (requested : List NodeId) (t : Tree) (past : List Step)
    (old new : Planned) (rule : RuleId) (file : NodeId)
    (found : List NodeId) → IsGraphNow b g → Ties b g requested t past old →
    IsScannedNext old rule.0 file →
    IsFoundIn b g t old rule file found → IsStep g old (Scanned rule found) new → Ties b g requested t past new
