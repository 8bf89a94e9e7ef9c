use Rattle.std.proofs.Common.{length}
use Rattle.task_plan.specs.Rooted.{makers_in}
use Rattle.scons_report.specs.Cleans.{led_to}
use Rattle.scons_report.proofs.CleanSteps.{IsOnWay}
use Rattle.scons_report.proofs.WalkEnds.{left_over}
use Rattle.scons_report.proofs.clean.clean_list.Given as goal

abbrev pub invariant-walk : goal.invariant-walk
invariant-walk l = IsOnWay (length l.graph.rules) (led_to l.graph) (makers_in l.graph l.requested) l.seen.items l.steps.items l.order.items

abbrev pub decreases-walk : goal.decreases-walk
decreases-walk l = left_over (led_to l.graph) l.seen.items l.steps.items
