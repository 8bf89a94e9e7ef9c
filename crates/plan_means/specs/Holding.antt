-- Which rules those at fault hold back, by a tied plan and by the model.
use Rattle.std.specs.Prelude.{◌≡◌, ◌≢◌, ℕ, true, false, List, Some}
use Rattle.std.specs.List.{count_by}
use Rattle.scons_base.specs.declared.ids.NodeId.{NodeId}
use Rattle.scons_base.specs.declared.ids.RuleId.{RuleId}
use Rattle.rule_graph.specs.Graphs.{RuleGraph}
use Rattle.task_plan.specs.States.{state_of, is_running}
use Rattle.task_plan.specs.Plans.{Planned}
use Rattle.task_plan.specs.Cycles.{IsCycle}
use Rattle.task_plan.specs.Orders.{is_among}
use Rattle.task_plan.specs.Watched.{IsStill}
use Rattle.task_plan.specs.Held.{IsHeldBy, NeedsFault}
use Rattle.task_plan.specs.declared.states.RuleState.TheVariants.{Unneeded}
use Rattle.build_model.specs.Rules.{Rule}
use Rattle.build_model.specs.Needs.{NeedsThrough, Needed}
use Rattle.build_model.specs.Steps.{Step, Build}
use Rattle.build_model.specs.Resting.{IsFaulty, IsUntouched, whole_found}
use Rattle.build_means.specs.Grown.{Begun, begun_setting, rule_numbered}
use Rattle.plan_means.specs.Deciding.{IsTied}

-- The rule with one number needs the rule with the other one, directly or through others; it neither began nor is settled, and
-- isn't at fault itself.
pub record IsHeldBack (b : Begun) (g : RuleGraph) (build : Build) (past : List Step) (number fault : ℕ) : Type 0 where
  pub rule : Rule
  pub is : rule_numbered b g number ≡ Some rule
  pub other : Rule
  pub is_other : rule_numbered b g fault ≡ Some other
  pub needs : NeedsThrough (begun_setting b).rule_of (whole_found (begun_setting b) build past) rule other
  pub untouched : IsUntouched past rule
  pub well : IsFaulty past rule → ⊥

-- So it is where a tied plan says that the one is held by the other.
abbrev pub HeldNeedFaults : Type 0
HeldNeedFaults = (b : Begun) (g : RuleGraph) (requested : List NodeId) (build : Build) (past : List Step)
    (plan : Planned) (faulty : List RuleId) (fault number : ℕ) →
    IsTied b g requested build past plan → state_of plan.states fault ≢ Unneeded →
    IsHeldBy plan.states plan.rules plan.notes.waiters faulty fault number →
    IsHeldBack b g build past number fault

-- one of these rules at fault holds the rule with this number, by what the plan knows of their needs
pub record HasFault (plan : Planned) (faulty : List RuleId) (number : ℕ) : Type 0 where
  pub fault : ℕ
  pub stands : is_among fault faulty ≡ true
  pub needs : NeedsFault plan faulty fault number

-- Where nothing can be scanned and decided and no rule runs, and all that is at fault by the steps stands among these: a
-- needed rule that needs one at fault, directly or through others, stands there itself, or one of them holds it.
abbrev pub NeedyAreHeld : Type 0
NeedyAreHeld = (b : Begun) (g : RuleGraph) (requested : List NodeId) (build : Build) (past : List Step)
    (plan : Planned) (faulty : List RuleId) (number : ℕ) (r q : Rule) →
    IsTied b g requested build past plan → IsStill plan → count_by is_running plan.states ≡ 0 →
    ((n : ℕ) (x : Rule) → rule_numbered b g n ≡ Some x → IsFaulty past x → is_among n faulty ≡ true) →
    rule_numbered b g number ≡ Some r →
    Needed (begun_setting b).rule_of (whole_found (begun_setting b) build past) build.requested r →
    NeedsThrough (begun_setting b).rule_of (whole_found (begun_setting b) build past) r q → IsFaulty past q →
    is_among number faulty ≡ false → HasFault plan faulty number

-- Rules that wait for themselves by a tied plan are needed, and each needs itself by the model, through the others.
pub record NeedsItself (b : Begun) (g : RuleGraph) (build : Build) (past : List Step) (plan : Planned) (number : ℕ) : Type 0 where
  pub needed : state_of plan.states number ≢ Unneeded
  pub rule : Rule
  pub is : rule_numbered b g number ≡ Some rule
  pub needs : NeedsThrough (begun_setting b).rule_of (whole_found (begun_setting b) build past) rule rule

abbrev pub CyclesNeedThemselves : Type 0
CyclesNeedThemselves = (b : Begun) (g : RuleGraph) (requested : List NodeId) (build : Build) (past : List Step)
    (plan : Planned) (cycle : List RuleId) (number : ℕ) →
    IsTied b g requested build past plan → IsCycle plan.states plan.rules plan.origins cycle →
    is_among number cycle ≡ true → NeedsItself b g build past plan number
