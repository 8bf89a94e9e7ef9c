use Rattle.std.proofs.Common.{◌≡◌, drop}
use Rattle.act_table.specs.Rows.{row_for}
use Rattle.act_table.proofs.table.ActTable.row_for.Given as goal

abbrev pub invariant-loop-row : goal.invariant-loop-row
invariant-loop-row l = row_for (drop l.row-index l.row-items) l.signed l.given ≡ row_for l.row-items l.signed l.given
