use Rattle.std.proofs.Common.{◌≡◌, [], drop}
use Rattle.task_plan.specs.Walks.{with_entered}
use Rattle.task_plan.proofs.walk.enter_all.Given as goal

abbrev pub invariant-loop-place : goal.invariant-loop-place
invariant-loop-place l = l.steps.items ≡ with_entered [] (drop l.place l.rules)
