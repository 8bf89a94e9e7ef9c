use Rattle.std.proofs.Common.{◌≡◌, take}
use Rattle.build_means.specs.Rules.{paths_of}
use Rattle.build_files.proofs.record.paths_of.Given as goal

abbrev pub invariant-loop-node : goal.invariant-loop-node
invariant-loop-node l = l.paths.items ≡ paths_of l.graph (take l.node-index l.nodes)
