use Rattle.std.proofs.Common.{◌≡◌, take}
use Rattle.scons_top.specs.Below.{targets_in}
use Rattle.scons_top.specs.Requested.{HaveNodes}
use Rattle.scons_top.proofs.below.targets_of.Given as goal

abbrev pub invariant-loop-number : goal.invariant-loop-number
invariant-loop-number l = record {
  nodes : HaveNodes l.graph l.targets.items;
  listed : l.targets.items ≡ targets_in l.graph (take l.number l.graph.rules);
}
