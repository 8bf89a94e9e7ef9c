use Rattle.std.proofs.Common.{◌≡◌, drop}
use Rattle.task_plan.specs.Rooted.{makers_in}
use Rattle.scons_report.specs.Cleans.{with_entered}
use Rattle.scons_report.proofs.clean.enter_all.Given as goal

abbrev pub invariant-loop-place : goal.invariant-loop-place
invariant-loop-place l = l.steps.items ≡ with_entered l.initial.steps.items (makers_in l.graph (drop l.place l.nodes))
