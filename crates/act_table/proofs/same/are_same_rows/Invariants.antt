use Rattle.std.proofs.Common.{◌≡◌, length}
use Rattle.std.specs.Prelude.{◌↔◌}
use Rattle.act_table.proofs.same.are_same_rows.Given as goal

abbrev pub invariant-loop-x : goal.invariant-loop-x
invariant-loop-x l = (l.xs ≡ l.ys) ↔ (l.a ≡ l.b)

abbrev pub decreases-loop-x : goal.decreases-loop-x
decreases-loop-x l = length l.xs
