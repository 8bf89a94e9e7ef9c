use Rattle.std.proofs.Common.{◌≡◌, ◌++◌, ◌-◌}
use Rattle.py_heap.specs.Many.{tuple_values}
use Rattle.py_heap.proofs.many.tuple_values.Given as goal

abbrev pub invariant-numbers : goal.invariant-numbers
invariant-numbers l = l.made ++ tuple_values l.number (l.end - l.number) ≡ tuple_values l.first l.count
