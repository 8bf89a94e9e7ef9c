use Rattle.std.proofs.Common.{◌≡◌, ◌++◌, ◌-◌}
use Rattle.py_heap.specs.Many.{text_values}
use Rattle.py_heap.proofs.many.text_values.Given as goal

abbrev pub invariant-numbers : goal.invariant-numbers
invariant-numbers l = l.made ++ text_values l.number (l.end - l.number) ≡ text_values l.first l.count
