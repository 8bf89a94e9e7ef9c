use Rattle.std.proofs.Common.{take}
use Rattle.task_plan.specs.Plans.{Meets}
use Rattle.task_plan.specs.Met.{Finds, HasRoom}
use Rattle.task_plan.specs.Admits.{Brings, none}
use Rattle.task_plan.specs.Ordered.{AreReady, LeavesOrder}
use Rattle.task_plan.specs.Watching.{BringsWatch, Hears, LeavesRules}
use Rattle.task_plan.specs.Rooted.{BringsNoOthers}
use Rattle.task_plan.proofs.plan.Plan.meet_found.Given as goal

abbrev pub invariant-loop-node : goal.invariant-loop-node
invariant-loop-node l = record {
  meets : Meets l.initial.self l.self;
  finds : Finds l.graph l.initial.self l.self (take l.node-index l.growth.new.items);
  room : HasRoom l.graph l.self;
  brings : Brings l.graph l.initial.self l.self none l.initial.needed.items l.needed.items;
  watch : BringsWatch l.initial.self l.self l.initial.needed.items l.needed.items;
  leaves : LeavesRules l.initial.self l.self;
  order : LeavesOrder l.initial.self l.self;
  ready : AreReady l.self l.rule.0 (take l.node-index l.growth.new.items);
  hears : Hears l.graph l.initial.self l.self l.rule.0 (take l.node-index l.growth.new.items);
  others : BringsNoOthers l.graph l.initial.self l.self l.growth.new.items l.initial.needed.items l.needed.items;
}
