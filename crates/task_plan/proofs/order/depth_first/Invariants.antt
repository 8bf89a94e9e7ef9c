use Rattle.std.proofs.Common.{length}
use Rattle.std.specs.Prelude.{map}
use Rattle.task_plan.specs.Settled.{kept_of}
use Rattle.task_plan.specs.Orders.{needed_of}
use Rattle.task_plan.proofs.OrderLemmas.{IsOnWay}
use Rattle.task_plan.proofs.order.depth_first.Given as goal

abbrev pub invariant-loop-step : goal.invariant-loop-step
invariant-loop-step l = IsOnWay (length (map kept_of l.tasks)) (needed_of (map kept_of l.tasks) l.files.origins.items) l.roots l.seen.items l.steps.items l.order.items
