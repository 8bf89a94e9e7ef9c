-- The one order of all values that the code of a sort compares by: integers, then texts, then the others, which tie.
use Rattle.std.specs.Prelude.{ℕ, Result, Ok, Err}
use Rattle.std.specs.declared.cmp.Ordering.{Ordering}
use Rattle.std.specs.Ordering.{nat_cmp}
use Rattle.py_heap.specs.declared.value.Value.{Value}
use Rattle.py_heap.specs.declared.value.Value.TheVariants as v
use Rattle.py_heap.specs.declared.fault.ValueFault.{ValueFault}
use Rattle.py_heap.specs.Heap.{Objects}
use Rattle.py_compare.specs.Order.{order_of}

abbrev pub sort_rank : Value → ℕ
sort_rank (v.Int n) = 0
sort_rank (v.Text id) = 1
sort_rank other = 2

abbrev order_or : Result Ordering ValueFault → Ordering → Ordering
order_or (Ok o) d = o
order_or (Err e) d = d

abbrev pub sort_order : Objects → Value → Value → Ordering
sort_order h x y = order_or (order_of h x y) (nat_cmp (sort_rank x) (sort_rank y))
