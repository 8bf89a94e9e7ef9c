use Rattle.std.proofs.Common.{◌≡◌, [], drop}
use Rattle.py_heap.specs.Given.{with_pairs}
use Rattle.py_heap.proofs.heap.Heap.dict_from.Given as goal

abbrev pub invariant-pairs : goal.invariant-pairs
invariant-pairs l = with_pairs l.self l.dict (drop l.given-index l.pairs) ≡ with_pairs l.self [] l.pairs
