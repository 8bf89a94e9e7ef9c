use Rattle.std.proofs.Common.{length}
use Rattle.task_plan.specs.Rooted.{makers_in}
use Rattle.scons_report.specs.Overs.{needs_over}
use Rattle.scons_report.proofs.CleanSteps.{IsOnWay}
use Rattle.scons_report.proofs.WalkEnds.{left_over}
use Rattle.scons_report.proofs.order.build_order.Given as goal

abbrev pub invariant-walk : goal.invariant-walk
invariant-walk l = IsOnWay (length l.graph.rules) (needs_over l.graph l.plan) (makers_in l.graph l.requested) l.seen.items l.steps.items l.order.items

abbrev pub decreases-walk : goal.decreases-walk
decreases-walk l = left_over (needs_over l.graph l.plan) l.seen.items l.steps.items
