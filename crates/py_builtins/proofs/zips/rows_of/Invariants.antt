use Rattle.std.proofs.Common.{◌≡◌, ◌++◌, ◌-◌, map}
use Rattle.py_compare.specs.Iterables.{iterable_items}
use Rattle.py_builtins.specs.Rows.{rows_from}
use Rattle.py_builtins.proofs.zips.rows_of.Given as goal

abbrev pub invariant-places : goal.invariant-places
invariant-places l =
    l.rows.items ++ rows_from l.place (l.count - l.place) (map (λ c. iterable_items l.heap c.first l.count c.value) l.columns) ≡ rows_from 0 l.count (map (λ c. iterable_items l.heap c.first l.count c.value) l.columns)
