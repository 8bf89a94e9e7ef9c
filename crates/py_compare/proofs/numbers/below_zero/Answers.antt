use Rattle.std.proofs.Common.{arith, ◌∙◌, ap, sym, Ok}
use Rattle.std.proofs.lemmas.Int.{ints}
use Rattle.py_compare.proofs.Fitting.{fits_below, passes_below}
use Rattle.py_compare.proofs.numbers.below_zero.Goals as goal

pub returns-then-distance-lt-REACH : goal.returns-then-distance-lt-REACH
returns-then-distance-lt-REACH c = ap Ok (omega (arith, ints)) ∙ sym (fits_below c.args.distance (omega arith))

pub returns-else-distance-eq-REACH : goal.returns-else-distance-eq-REACH
returns-else-distance-eq-REACH c = sym (passes_below c.args.distance (omega arith))

pub returns-then-distance-eq-REACH : goal.returns-then-distance-eq-REACH
returns-then-distance-eq-REACH c = ap Ok (omega (arith, ints)) ∙ sym (fits_below c.args.distance (omega arith))
