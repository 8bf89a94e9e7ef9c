use Rattle.std.proofs.Common.{◌≡◌, take}
use Rattle.py_heap.specs.Heap.{dict_at, items_in}
use Rattle.py_heap.proofs.heap.Heap.items_in.Given as goal

abbrev pub invariant-places : goal.invariant-places
invariant-places l = l.items ≡ take l.place (items_in (dict_at l.self l.id.0))
