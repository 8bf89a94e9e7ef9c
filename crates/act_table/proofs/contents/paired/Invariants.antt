use Rattle.std.proofs.Common.{◌≡◌, ◌++◌, drop}
use Rattle.act_table.specs.Filled.{paired}
use Rattle.act_table.proofs.contents.paired.Given as goal

abbrev pub invariant-loop-path : goal.invariant-loop-path
invariant-loop-path l = l.pairs ++ paired (drop l.path-index l.path-items) l.rest ≡ paired l.path-items l.contents
