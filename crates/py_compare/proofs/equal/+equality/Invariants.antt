use Rattle.std.proofs.Common.{◌≡◌, ◌+◌, ◌-◌, ◌*◌, drop}
use Rattle.py_heap.specs.Heap.{dict_at}
use Rattle.py_compare.specs.Equality.{equal_at, equal_items, equal_pairs, facing_items, items_at, entries_at}
use Rattle.py_compare.proofs.equal.+equality.Given as goal

abbrev pub decreases-equal : goal.decreases-equal
decreases-equal l = 3 * l.levels + 2

abbrev pub decreases-equal_inside : goal.decreases-equal_inside
decreases-equal_inside l = 3 * l.levels + 1

abbrev pub decreases-equal_items : goal.decreases-equal_items
decreases-equal_items l = 3 * l.levels

abbrev pub decreases-equal_entries : goal.decreases-equal_entries
decreases-equal_entries l = 3 * l.levels

abbrev pub invariant-equal_items-items : goal.invariant-equal_items-items
invariant-equal_items-items l = equal_items (equal_at (l.levels - 1) l.heap) l.budget (drop l.place l.items) (drop l.place l.others) ≡ items_at l.levels l.heap l.initial.budget l.items l.others

abbrev pub invariant-equal_entries-places : goal.invariant-equal_entries-places
invariant-equal_entries-places l = equal_pairs (equal_at (l.levels - 1) l.heap) l.budget (drop l.place (facing_items (dict_at l.heap l.dict.0) (dict_at l.heap l.other.0))) ≡ entries_at l.levels l.heap l.initial.budget (dict_at l.heap l.dict.0) (dict_at l.heap l.other.0)
