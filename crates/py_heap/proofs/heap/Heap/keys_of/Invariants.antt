use Rattle.std.proofs.Common.{◌≡◌, take}
use Rattle.py_heap.specs.Heap.{dict_at, keys_of}
use Rattle.py_heap.proofs.heap.Heap.keys_of.Given as goal

abbrev pub invariant-places : goal.invariant-places
invariant-places l = l.keys ≡ take l.place (keys_of (dict_at l.self l.id.0))
