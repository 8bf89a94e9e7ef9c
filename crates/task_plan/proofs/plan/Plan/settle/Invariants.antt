use Rattle.std.proofs.Common.{take}
use Rattle.task_plan.specs.Ordered.{LeavesQueue}
use Rattle.task_plan.specs.Plans.{Stays}
use Rattle.task_plan.specs.Watched.{targets_at}
use Rattle.task_plan.proofs.SettleLemmas.{Settling}
use Rattle.task_plan.proofs.plan.Plan.settle.Given as goal

abbrev pub invariant-loop-place : goal.invariant-loop-place
invariant-loop-place l = record {
  stays : Stays l.initial.self l.self;
  leaves : LeavesQueue l.initial.self l.self;
  settling : Settling l.initial.self l.self (take l.place (targets_at l.initial.self.rules l.rule.0));
}
