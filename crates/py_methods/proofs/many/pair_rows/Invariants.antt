use Rattle.std.proofs.Common.{◌≡◌, take}
use Rattle.py_heap.specs.Heap.{dict_at}
use Rattle.py_methods.specs.Many.{pair_rows}
use Rattle.py_methods.proofs.many.pair_rows.Given as goal

abbrev pub invariant-places : goal.invariant-places
invariant-places l = l.rows.items ≡ take l.place (pair_rows (dict_at l.heap l.dict.0))
