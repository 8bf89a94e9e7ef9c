use Rattle.std.proofs.Common.{take}
use Rattle.sign_store.specs.Tables.{WritesEach}
use Rattle.sign_store.proofs.map.write_each.Given as goal

abbrev pub invariant-loop-path : goal.invariant-loop-path
invariant-loop-path l = WritesEach (take l.path-index l.paths) l.value l.initial.table l.table
