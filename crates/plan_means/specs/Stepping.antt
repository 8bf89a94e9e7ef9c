-- What an event tells of a build: the step that comes of it. A plan that is told of it stays tied.
use Rattle.std.specs.Prelude.{◌≡◌, ℕ, true, false, List, ◌∷◌, Some, None}
use Rattle.scons_base.specs.declared.ids.NodeId.{NodeId}
use Rattle.scons_base.specs.declared.ids.RuleId.{RuleId}
use Rattle.rule_graph.specs.Graphs.{RuleGraph}
use Rattle.task_plan.specs.States.{state_of}
use Rattle.task_plan.specs.Plans.{Planned, IsDecidedNext}
use Rattle.task_plan.specs.declared.states.RuleState.TheVariants.{Running}
use Rattle.task_plan.specs.declared.want.PlanEvent.{PlanEvent}
use Rattle.task_plan.specs.declared.want.PlanEvent.TheVariants as told
use Rattle.build_model.specs.Rules.{Path, Tree, Rule, Among}
use Rattle.build_model.specs.Steps.{Step, Fresh, Began, Ended, Lacks, Halts, settled, IsRunning}
use Rattle.build_means.specs.Grown.{Begun, begun_setting, rule_numbered}
use Rattle.plan_means.specs.Planning.{IsGraphNow, IsStep}
use Rattle.plan_means.specs.Ties.{Ties}

-- An event that is no scan, of what the plan wanted decided next or of a rule that runs, and the step that it tells of.
pub data Tells (b : Begun) (g : RuleGraph) (plan : Planned) : PlanEvent → Step → Type 0 where
  is_fresh : (rule : RuleId) (r : Rule) → rule_numbered b g rule.0 ≡ Some r → IsDecidedNext plan rule.0 →
      Tells b g plan (told.Fresh rule) (Fresh r)
  has_begun : (rule : RuleId) (r : Rule) → rule_numbered b g rule.0 ≡ Some r → IsDecidedNext plan rule.0 →
      Tells b g plan (told.Started rule) (Began r)
  lacks_one : (rule : RuleId) (node : NodeId) (r : Rule) (p : Path) → rule_numbered b g rule.0 ≡ Some r →
      IsDecidedNext plan rule.0 →
      Tells b g plan (told.Absent rule node) (Lacks r p)
  has_ended : (rule : RuleId) (r : Rule) → rule_numbered b g rule.0 ≡ Some r → state_of plan.states rule.0 ≡ Running →
      Tells b g plan (told.DoneOk rule) (Ended r true)
  has_failed : (rule : RuleId) (r : Rule) → rule_numbered b g rule.0 ≡ Some r → state_of plan.states rule.0 ≡ Running →
      Tells b g plan (told.DoneFailed rule) (Ended r false)
  has_halted : Tells b g plan told.Halt Halts

abbrev pub EventsKeepTies : Type 0
EventsKeepTies = (b : Begun) (g : RuleGraph) (requested : List NodeId) (t : Tree) (past : List Step)
    (old new : Planned) (event : PlanEvent) (step : Step) →
    IsGraphNow b g → Ties b g requested t past old → Tells b g old event step → IsStep g old event new →
    Ties b g requested t (step ∷ past) new

-- A rule whose action runs by the steps runs by the plan.
abbrev pub RunningAreKnown : Type 0
RunningAreKnown = (b : Begun) (g : RuleGraph) (requested : List NodeId) (t : Tree) (past : List Step)
    (plan : Planned) (number : ℕ) (r : Rule) →
    Ties b g requested t past plan → rule_numbered b g number ≡ Some r → IsRunning past r →
    state_of plan.states number ≡ Running

-- what no rule makes, and what settled rules make, stays as it is
pub record StaysSettled (b : Begun) (past : List Step) (t u : Tree) : Type 0 where
  pub sources : (p : Path) → (begun_setting b).rule_of p ≡ None → t p ≡ u p
  pub made : (p : Path) (r : Rule) → (begun_setting b).rule_of p ≡ Some r → Among r (settled past) → t p ≡ u p

-- So a plan stays tied while actions run.
abbrev pub ChangesKeepTies : Type 0
ChangesKeepTies = (b : Begun) (g : RuleGraph) (requested : List NodeId) (t u : Tree) (past : List Step)
    (plan : Planned) →
    StaysSettled b past t u → Ties b g requested t past plan → Ties b g requested u past plan
