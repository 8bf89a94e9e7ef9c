use Rattle.std.proofs.Common.{◌≤◌, ◌-◌, length}
use Rattle.task_plan.specs.Settled.{AreDoneTo, needs_of}
use Rattle.task_plan.proofs.task.Task.first_undone.Given as goal

abbrev pub invariant-loop-place : goal.invariant-loop-place
invariant-loop-place l = record { done : AreDoneTo l.states l.files.origins.items l.self l.place; further : l.self.passed ≤ l.place }

abbrev pub decreases-loop-place : goal.decreases-loop-place
decreases-loop-place l = length (needs_of l.self) - l.place
