use Rattle.std.proofs.Common.{◌≡◌, [], true, drop}
use Rattle.task_plan.specs.Plans.{Meets}
use Rattle.task_plan.specs.Met.{Finds, HasRoom}
use Rattle.task_plan.specs.Admits.{Admits, are_rules, queues}
use Rattle.task_plan.specs.Ordered.{LeavesOrder}
use Rattle.task_plan.specs.Watching.{EndsWatch}
use Rattle.task_plan.proofs.OtherLemmas.{AddsNoOthers}
use Rattle.task_plan.proofs.plan.Plan.admit.Given as goal

abbrev pub invariant-loop-place : goal.invariant-loop-place
invariant-loop-place l = record {
  meets : Meets l.initial.self l.self;
  rules : are_rules l.graph l.needed.items ≡ true;
  room : HasRoom l.graph l.self;
  order : LeavesOrder l.initial.self l.self;
  finds : Finds l.graph l.initial.self l.self [];
  admits : Admits l.graph l.initial.self l.self (queues l.initial.needed.items) (drop l.place l.needed.items);
  watch : EndsWatch l.initial.self l.self l.initial.needed.items (drop l.place l.needed.items);
  others : AddsNoOthers l.graph l.initial.self l.self l.initial.needed.items l.needed.items;
}
