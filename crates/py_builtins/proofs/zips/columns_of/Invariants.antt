use Rattle.std.proofs.Common.{◌≡◌, ◌++◌, drop, map, length}
use Rattle.py_compare.specs.Iterables.{iterable_items}
use Rattle.py_builtins.specs.Rows.{zip_columns}
use Rattle.py_builtins.proofs.zips.columns_of.Given as goal

abbrev pub invariant-values : goal.invariant-values
invariant-values l =
    map (λ c. iterable_items l.heap c.first l.count c.value) l.columns.items ++ zip_columns l.heap l.first l.count (drop l.value-index l.values) ≡ zip_columns l.heap (length l.heap.texts) l.count l.values
