use Rattle.std.proofs.Common.{◌≡◌, take}
use Rattle.task_plan.specs.Settled.{IsLonger}
use Rattle.task_plan.specs.Named.{put_all}
use Rattle.task_plan.proofs.sets.put_all.Given as goal

abbrev pub invariant-loop-node : goal.invariant-loop-node
invariant-loop-node l = record {
  longer : IsLonger l.initial.there.keys l.there.keys;
  all : l.there.keys ≡ put_all l.out.keys l.initial.there.keys (take l.node-index l.nodes);
}
