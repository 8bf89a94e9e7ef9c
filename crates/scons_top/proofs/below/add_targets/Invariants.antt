use Rattle.std.proofs.Common.{◌≡◌, ◌++◌, take}
use Rattle.scons_top.specs.Below.{with_paths}
use Rattle.scons_top.specs.Requested.{HaveNodes}
use Rattle.scons_top.proofs.below.add_targets.Given as goal

abbrev pub invariant-loop-target : goal.invariant-loop-target
invariant-loop-target l = record {
  nodes : HaveNodes l.graph l.fn.targets.items → HaveNodes l.graph l.targets.items;
  adds : l.targets.items ≡ l.fn.targets.items ++ with_paths l.graph (take l.target-index l.target-items);
}
