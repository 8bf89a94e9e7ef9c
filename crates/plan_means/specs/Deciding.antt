-- What a plan decides about may be decided by the model.
use Rattle.std.specs.Prelude.{◌≡◌, ◌<◌, ℕ, false, List, Some}
use Rattle.scons_base.specs.declared.ids.NodeId.{NodeId}
use Rattle.scons_base.specs.declared.ids.RuleId.{RuleId}
use Rattle.rule_graph.specs.Graphs.{RuleGraph}
use Rattle.task_plan.specs.Settled.{deps_of}
use Rattle.task_plan.specs.Orders.{IsOrder}
use Rattle.task_plan.specs.Ordered.{IsFirstOf}
use Rattle.task_plan.specs.Watched.{IsNoneReady}
use Rattle.task_plan.specs.Plans.{Planned, IsDecidedNext}
use Rattle.build_model.specs.Rules.{Path, Rule, Among}
use Rattle.build_model.specs.Steps.{Step, Build, running, IsRun, IsMissing, IsDecided, IsLacking, is_over, present_dependencies}
use Rattle.build_model.specs.OneJob.{IsTakenFirst, IsTakenInOrder}
use Rattle.build_model.specs.Needs.{NeedsThrough, Needed}
use Rattle.build_model.specs.Resting.{whole_found}
use Rattle.build_means.specs.Rules.{paths_of}
use Rattle.build_means.specs.Grown.{Begun, begun_setting, rule_numbered}
use Rattle.build_means.specs.Present.{IsFirstAbsent}
use Rattle.plan_means.specs.Planning.{IsGraphNow}
use Rattle.plan_means.specs.Ties.{Ties}

-- A build as it stands: its steps are those of a build that ends here, it asks for these nodes, and the plan is tied
-- to it.
pub record IsTied (b : Begun) (g : RuleGraph) (requested : List NodeId) (build : Build) (past : List Step)
    (plan : Planned) : Type 0 where
  pub graph : IsGraphNow b g
  pub run : IsRun (begun_setting b) build past
  pub asked : build.requested ≡ paths_of g requested
  pub ties : Ties b g requested build.after past plan
  -- where the plan hasn't halted the build isn't over
  pub goes_on : plan.halted ≡ false → is_over build.keeps_going past ≡ false

-- The rule with this number may be decided: its dependencies are those that the plan lists; where all of them are
-- there it may be found up to date or started, and else it lacks the first that isn't.
pub record MayBeDecided (b : Begun) (g : RuleGraph) (build : Build) (past : List Step) (plan : Planned)
    (number : ℕ) : Type 0 where
  pub rule : Rule
  pub is : rule_numbered b g number ≡ Some rule
  pub dependencies : present_dependencies (begun_setting b) build rule ≡ paths_of g (deps_of plan.rules number)
  pub decided : ((p : Path) → Among p (paths_of g (deps_of plan.rules number)) → IsMissing (begun_setting b)
      build.after p → ⊥) →
      IsDecided (begun_setting b) build past rule
  pub lacks : (p : Path) → IsFirstAbsent b (paths_of g (deps_of plan.rules number)) build.after p →
      IsLacking (begun_setting b) build past rule p

abbrev pub DecidedMayBe : Type 0
DecidedMayBe = (b : Begun) (g : RuleGraph) (requested : List NodeId) (build : Build) (past : List Step)
    (plan : Planned) (number : ℕ) →
    IsTied b g requested build past plan → IsDecidedNext plan number → MayBeDecided b g build past plan number

-- Of the rules that could be decided the model takes first the one that the plan wants decided next: all was scanned
-- that can be, and this one stands first in the plan's build order.
abbrev pub FirstIsTaken : Type 0
FirstIsTaken = (b : Begun) (g : RuleGraph) (requested : List NodeId) (build : Build) (past : List Step)
    (plan : Planned) (rule : RuleId) (r : Rule) →
    IsTied b g requested build past plan → rule_numbered b g rule.0 ≡ Some r → IsNoneReady plan →
    ((order : List RuleId) → IsOrder plan.rules plan.origins plan.notes.roots order → IsFirstOf plan order rule) →
    IsTakenFirst (begun_setting b) build past r

-- by what was found where all is scanned that can be, no needed rule needs itself
abbrev pub HasNoLoop : Begun → Build → List Step → Type 0
HasNoLoop b build past = (x : Rule) →
    Needed (begun_setting b).rule_of (whole_found (begun_setting b) build past) build.requested x →
    NeedsThrough (begun_setting b).rule_of (whole_found (begun_setting b) build past) x x → ⊥

-- It is taken in order, too, where one more action may run and no needed rule waits for itself by what was found: the
-- list of the files that are scanned for one is never cut short.
abbrev pub InOrderIsTaken : Type 0
InOrderIsTaken = (b : Begun) (g : RuleGraph) (requested : List NodeId) (build : Build) (past : List Step)
    (plan : Planned) (rule : RuleId) (r : Rule) →
    IsTied b g requested build past plan → rule_numbered b g rule.0 ≡ Some r → IsNoneReady plan →
    ((order : List RuleId) → IsOrder plan.rules plan.origins plan.notes.roots order → IsFirstOf plan order rule) →
    running past < build.jobs → HasNoLoop b build past → IsTakenInOrder (begun_setting b) build past r
