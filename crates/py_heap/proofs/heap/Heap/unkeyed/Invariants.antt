use Rattle.std.proofs.Common.{◌≡◌, drop}
use Rattle.py_heap.specs.Given.{unkeyed}
use Rattle.py_heap.proofs.heap.Heap.unkeyed.Given as goal

abbrev pub invariant-pairs : goal.invariant-pairs
invariant-pairs l = unkeyed l.self (drop l.given-index l.pairs) ≡ unkeyed l.self l.pairs
