use Rattle.std.proofs.Common.{◌≡◌, drop}
use Rattle.py_compare.specs.Sorting.{sortable_beside}
use Rattle.py_compare.proofs.sorting.sortable_beside.Given as goal

abbrev pub invariant-items : goal.invariant-items
invariant-items l = sortable_beside l.value (drop l.item-index l.items) ≡ sortable_beside l.value l.items
