use Rattle.std.proofs.Common.{◌≡◌, ◌++◌, ◌∷◌, [], ◌-◌}
use Rattle.py_compare.specs.Iterables.{iterable_items}
use Rattle.py_builtins.specs.Numbers.{counted}
use Rattle.py_builtins.specs.Rows.{rows_from}
use Rattle.py_builtins.proofs.rows.numbered_rows.Given as goal

abbrev pub invariant-places : goal.invariant-places
invariant-places l =
    l.rows.items ++ rows_from l.place (l.count - l.place) (counted l.count l.from ∷ iterable_items l.heap l.column.first l.count l.column.value ∷ []) ≡ rows_from 0 l.count (counted l.count l.from ∷ iterable_items l.heap l.column.first l.count l.column.value ∷ [])
