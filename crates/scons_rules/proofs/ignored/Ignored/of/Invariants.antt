use Rattle.std.proofs.Common.{take}
use Rattle.scons_rules.specs.Aliased.{Leaves}
use Rattle.scons_rules.proofs.ignored.Ignored.of.Given as goal

abbrev pub invariant-loop-node : goal.invariant-loop-node
invariant-loop-node l = Leaves (take l.node-index l.nodes) l.ignored
