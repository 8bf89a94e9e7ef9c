-- What each operator of two operands gives.
use Rattle.std.specs.Prelude.{true, false, not, Ok}
use Rattle.std.specs.Ordering.{is_lt, is_le, is_gt, is_ge}
use Rattle.py_heap.specs.declared.value.Value.{Value}
use Rattle.py_heap.specs.declared.value.Value.TheVariants as v
use Rattle.py_heap.specs.Heap.{Objects}
use Rattle.py_heap.specs.Units.{Units}
use Rattle.py_operators.specs.declared.op.Op.{Op}
use Rattle.py_operators.specs.declared.op.Op.TheVariants as op
use Rattle.py_compare.specs.Outcomes.{Outcome}
use Rattle.py_compare.specs.Equality.{equal_of}
use Rattle.py_compare.specs.Comparisons.{told, order_told, within_of, is_constant}
use Rattle.py_operators.specs.Arithmetic.{sum_of, difference_of, quotient_of, product_of}
use Rattle.py_operators.specs.Remainders.{rest_of}

abbrev pub binary_of : Op → Objects → Units → Value → Value → Outcome
binary_of op.Eq h u x y = told h false (equal_of h u x y)
binary_of op.Ne h u x y = told h true (equal_of h u x y)
binary_of op.Lt h u x y = order_told is_lt h u x y
binary_of op.Le h u x y = order_told is_le h u x y
binary_of op.Gt h u x y = order_told is_gt h u x y
binary_of op.Ge h u x y = order_told is_ge h u x y
binary_of op.Contains h u x y = told h false (within_of h u x y)
binary_of op.NotContains h u x y = told h true (within_of h u x y)
binary_of op.Is h u x y = Ok (v.Bool (is_constant x y), h, u)
binary_of op.IsNot h u x y = Ok (v.Bool (not (is_constant x y)), h, u)
binary_of op.Add h u x y = sum_of h u x y
binary_of op.Sub h u x y = difference_of h u x y
binary_of op.Mul h u x y = product_of h u x y
binary_of op.FloorDiv h u x y = quotient_of h u x y
binary_of op.Rem h u x y = rest_of h u x y
