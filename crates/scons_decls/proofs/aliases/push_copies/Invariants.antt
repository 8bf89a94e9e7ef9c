use Rattle.std.proofs.Common.{◌≡◌, ◌++◌, take}
use Rattle.scons_decls.proofs.aliases.push_copies.Given as goal

abbrev pub invariant-loop-node : goal.invariant-loop-node
invariant-loop-node l = l.there ≡ l.initial.there ++ take l.node-index l.nodes
