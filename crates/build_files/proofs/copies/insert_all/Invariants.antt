use Rattle.std.proofs.Common.{◌≡◌, ◌||◌, take}
use Rattle.scons_base.specs.declared.ids.NodeId.{NodeId}
use Rattle.build_files.specs.Marked.{is_among}
use Rattle.build_files.proofs.copies.insert_all.Given as goal

abbrev pub invariant-loop-node : goal.invariant-loop-node
invariant-loop-node l = (n : NodeId) → is_among l.set.keys n ≡ (is_among l.fn.set.keys n || is_among (take l.node-index l.nodes) n)
