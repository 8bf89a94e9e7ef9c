-- The order of values: section 6.10.1 ("Value comparisons") of the Python language reference, cut down to two integers and
-- two texts. The order of texts by code points is that of their UTF-8 bytes.
use Rattle.std.specs.Prelude.{ℕ, List, Result, Ok, ℤ}
use Rattle.std.specs.declared.cmp.Ordering.{Ordering}
use Rattle.std.specs.Ordering.{nat_cmp, int_cmp}
use Rattle.std.specs.Cmp.Lexicographic.{slice_cmp}
use Rattle.py_heap.specs.declared.value.Value.{Value}
use Rattle.py_heap.specs.declared.value.Value.TheVariants as v
use Rattle.py_heap.specs.declared.fault.ValueFault.{ValueFault}
use Rattle.py_heap.specs.Heap.{Objects, text_at}
use Rattle.py_compare.specs.Outcomes.{mismatch}

abbrev number_before : Value → ℤ → Value → Result Ordering ValueFault
number_before x m (v.Int n) = Ok (int_cmp m n)
number_before x m y = mismatch x y

abbrev text_before : Objects → Value → List ℕ → Value → Result Ordering ValueFault
text_before h x s (v.Text id) = Ok (slice_cmp nat_cmp s (text_at h id.0))
text_before h x s y = mismatch x y

abbrev pub order_of : Objects → Value → Value → Result Ordering ValueFault
order_of h (v.Int n) y = number_before (v.Int n) n y
order_of h (v.Text id) y = text_before h (v.Text id) (text_at h id.0) y
order_of h v.Nil y = mismatch v.Nil y
order_of h (v.Bool flag) y = mismatch (v.Bool flag) y
order_of h (v.List id) y = mismatch (v.List id) y
order_of h (v.Tuple id) y = mismatch (v.Tuple id) y
order_of h (v.Dict id) y = mismatch (v.Dict id) y
order_of h (v.Func id) y = mismatch (v.Func id) y
order_of h (v.Builtin b) y = mismatch (v.Builtin b) y
order_of h (v.Object id) y = mismatch (v.Object id) y
