use Rattle.std.specs.Prelude.{map}
use Rattle.task_plan.specs.Settled.{kept_of}
use Rattle.task_plan.specs.Walks.{IsWalk}
use Rattle.task_plan.proofs.cycles.cycle_of.Given as goal

abbrev pub invariant-loop-step : goal.invariant-loop-step
invariant-loop-step l = IsWalk l.states (map kept_of l.tasks) l.files.origins.items l.walk
