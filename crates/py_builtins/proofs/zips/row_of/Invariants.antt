use Rattle.std.proofs.Common.{◌≡◌, ◌++◌, drop, map}
use Rattle.py_compare.specs.Iterables.{iterable_items}
use Rattle.py_builtins.specs.Rows.{row_at}
use Rattle.py_builtins.proofs.zips.row_of.Given as goal

abbrev pub invariant-columns : goal.invariant-columns
invariant-columns l =
    l.row ++ row_at (map (λ c. iterable_items l.heap c.first l.count c.value) (drop l.column-index l.columns)) l.place ≡ row_at (map (λ c. iterable_items l.heap c.first l.count c.value) l.columns) l.place
