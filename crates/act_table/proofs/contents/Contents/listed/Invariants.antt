use Rattle.std.proofs.Common.{◌≡◌, drop}
use Rattle.act_table.specs.Listed.{listed}
use Rattle.act_table.proofs.contents.Contents.listed.Given as goal

abbrev pub invariant-loop-name : goal.invariant-loop-name
invariant-loop-name l = listed (drop l.name-index l.name-items) l.path ≡ listed l.name-items l.path
