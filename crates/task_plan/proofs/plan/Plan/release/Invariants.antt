use Rattle.std.proofs.Common.{take}
use Rattle.task_plan.specs.Ordered.{LeavesQueue}
use Rattle.task_plan.specs.Plans.{Stays}
use Rattle.task_plan.specs.Noted.{waiters_of}
use Rattle.task_plan.proofs.SettleLemmas.{Releasing}
use Rattle.task_plan.proofs.plan.Plan.release.Given as goal

abbrev pub invariant-loop-place : goal.invariant-loop-place
invariant-loop-place l = record {
  stays : Stays l.initial.self l.self;
  leaves : LeavesQueue l.initial.self l.self;
  releasing : Releasing l.initial.self l.self l.node (take l.place (waiters_of l.initial.self.notes.waiters l.node.0));
}
