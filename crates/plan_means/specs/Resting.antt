-- Where a plan can scan and decide nothing, the build may wait, or is at rest.
use Rattle.std.specs.Prelude.{◌≡◌, List}
use Rattle.std.specs.List.{count_by}
use Rattle.scons_base.specs.declared.ids.NodeId.{NodeId}
use Rattle.rule_graph.specs.Graphs.{RuleGraph}
use Rattle.task_plan.specs.States.{is_running}
use Rattle.task_plan.specs.Plans.{Planned}
use Rattle.task_plan.specs.Watched.{IsStill}
use Rattle.build_model.specs.Steps.{Step, Build}
use Rattle.build_model.specs.Resting.{IsAtRest, whole_found}
use Rattle.build_model.specs.Waiting.{IsIdle}
use Rattle.build_means.specs.Grown.{Begun, begun_setting}
use Rattle.plan_means.specs.Deciding.{IsTied}

-- no needed rule can be decided, so the build may wait for an ending
abbrev pub StillIsIdle : Type 0
StillIsIdle = (b : Begun) (g : RuleGraph) (requested : List NodeId) (build : Build) (past : List Step)
    (plan : Planned) →
    IsTied b g requested build past plan → IsStill plan → IsIdle (begun_setting b) build past

-- and where no rule runs nothing is left to do
abbrev pub StillIsAtRest : Type 0
StillIsAtRest = (b : Begun) (g : RuleGraph) (requested : List NodeId) (build : Build) (past : List Step)
    (plan : Planned) →
    IsTied b g requested build past plan → IsStill plan → count_by is_running plan.states ≡ 0 →
    IsAtRest (begun_setting b) build past (whole_found (begun_setting b) build past)
