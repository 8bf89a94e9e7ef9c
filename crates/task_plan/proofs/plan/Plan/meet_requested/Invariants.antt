use Rattle.std.proofs.Common.{◌≡◌, ◌++◌, take}
use Rattle.task_plan.specs.Plans.{Meets}
use Rattle.task_plan.specs.Met.{Finds, HasRoom}
use Rattle.task_plan.specs.Admits.{Brings, none}
use Rattle.task_plan.specs.Rooted.{makers_in}
use Rattle.task_plan.specs.Ordered.{MeetsRoots}
use Rattle.task_plan.specs.Watching.{BringsWatch}
use Rattle.task_plan.specs.Rooted.{BringsNoOthers}
use Rattle.task_plan.proofs.plan.Plan.meet_requested.Given as goal

abbrev pub invariant-loop-node : goal.invariant-loop-node
invariant-loop-node l = record {
  meets : Meets l.initial.self l.self;
  finds : Finds l.graph l.initial.self l.self (take l.node-index l.requested);
  room : HasRoom l.graph l.self;
  roots : l.self.notes.roots ≡ l.initial.self.notes.roots ++ makers_in l.graph (take l.node-index l.requested);
  order : MeetsRoots l.graph l.initial.self l.self;
  brings : Brings l.graph l.initial.self l.self none l.initial.needed.items l.needed.items;
  watch : BringsWatch l.initial.self l.self l.initial.needed.items l.needed.items;
  others : BringsNoOthers l.graph l.initial.self l.self l.requested l.initial.needed.items l.needed.items;
}
