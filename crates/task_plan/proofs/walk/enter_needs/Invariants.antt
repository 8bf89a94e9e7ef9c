use Rattle.std.proofs.Common.{◌≡◌, drop}
use Rattle.task_plan.specs.Settled.{needs_of}
use Rattle.task_plan.specs.Orders.{makers_of}
use Rattle.task_plan.specs.Walks.{with_entered}
use Rattle.task_plan.proofs.walk.enter_needs.Given as goal

abbrev pub invariant-loop-place : goal.invariant-loop-place
invariant-loop-place l = l.steps.items ≡ with_entered l.initial.steps.items (makers_of l.files.origins.items (drop l.place (needs_of l.task)))
