use Rattle.std.proofs.Common.{◌≡◌, ◌++◌, not, filter, take}
use Rattle.build_files.specs.Marked.{is_among}
use Rattle.build_files.proofs.copies.add_kept.Given as goal

abbrev pub invariant-loop-node : goal.invariant-loop-node
invariant-loop-node l = l.nodes.items ≡ l.fn.nodes.items ++ filter (λ n. not (is_among l.ignored.keys n)) (take l.node-index l.named)
