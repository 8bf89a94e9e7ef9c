use Rattle.std.proofs.Common.{◌≡◌, take}
use Rattle.task_plan.specs.Plans.{Meets}
use Rattle.task_plan.specs.Met.{Finds, HasRoom, needs_at}
use Rattle.task_plan.specs.Admits.{Brings, none}
use Rattle.task_plan.specs.Ordered.{LeavesOrder}
use Rattle.task_plan.specs.Watching.{BringsWatch, Hears, LeavesRules}
use Rattle.task_plan.specs.Rooted.{BringsNoOthers}
use Rattle.task_plan.proofs.plan.Plan.meet_needs.Given as goal

abbrev pub invariant-loop-place : goal.invariant-loop-place
invariant-loop-place l = record {
  meets : Meets l.initial.self l.self;
  finds : Finds l.graph l.initial.self l.self (take l.place (needs_at l.initial.self.rules l.rule.0));
  rules : l.self.rules ≡ l.initial.self.rules;
  room : HasRoom l.graph l.self;
  brings : Brings l.graph l.initial.self l.self none l.initial.needed.items l.needed.items;
  watch : BringsWatch l.initial.self l.self l.initial.needed.items l.needed.items;
  leaves : LeavesRules l.initial.self l.self;
  order : LeavesOrder l.initial.self l.self;
  hears : Hears l.graph l.initial.self l.self l.rule.0 (take l.place (needs_at l.initial.self.rules l.rule.0));
  others : BringsNoOthers l.graph l.initial.self l.self (needs_at l.initial.self.rules l.rule.0) l.initial.needed.items l.needed.items;
}
