use Rattle.std.proofs.Common.{arith, ◌∙◌, ap, sym, Ok, w64}
use Rattle.std.proofs.lemmas.Int.{to_z_pos}
use Rattle.py_compare.proofs.Fitting.{fits_above, passes_above}
use Rattle.py_compare.proofs.numbers.above_zero.Goals as goal

pub returns-then-distance-lt-REACH : goal.returns-then-distance-lt-REACH
returns-then-distance-lt-REACH c = ap Ok (to_z_pos w64 c.args.distance (omega arith)) ∙ sym (fits_above c.args.distance (omega arith))

pub returns-else-distance-lt-REACH : goal.returns-else-distance-lt-REACH
returns-else-distance-lt-REACH c = sym (passes_above c.args.distance (omega arith))
