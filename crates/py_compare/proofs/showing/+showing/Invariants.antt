use Rattle.std.proofs.Common.{◌≡◌, ◌+◌, ◌-◌, ◌*◌, drop, true}
use Rattle.py_heap.specs.Heap.{dict_at}
use Rattle.py_compare.specs.Growing.{grown}
use Rattle.py_compare.specs.Showing.{show_at, onto_items, onto_entries, items_shown, entries_shown, entries_of}
use Rattle.py_compare.proofs.showing.+showing.Given as goal

abbrev pub decreases-show_onto : goal.decreases-show_onto
decreases-show_onto l = 4 * l.levels + 2

abbrev pub decreases-show_inside : goal.decreases-show_inside
decreases-show_inside l = 4 * l.levels + 1

abbrev pub decreases-show_items : goal.decreases-show_items
decreases-show_items l = 4 * l.levels

abbrev pub decreases-show_entries : goal.decreases-show_entries
decreases-show_entries l = 4 * l.levels

abbrev pub decreases-show_entry : goal.decreases-show_entry
decreases-show_entry l = 4 * l.levels + 3

abbrev pub invariant-show_items-items : goal.invariant-show_items-items
invariant-show_items-items l = onto_items grown (show_at grown (l.levels - 1) l.heap true) l.place l.text l.budget (drop l.place l.items) ≡ items_shown grown l.levels l.heap l.initial.text l.initial.budget l.items

abbrev pub invariant-show_entries-places : goal.invariant-show_entries-places
invariant-show_entries-places l = onto_entries grown (show_at grown (l.levels - 1) l.heap true) l.place l.text l.budget (drop l.place (entries_of (dict_at l.heap l.dict.0))) ≡ entries_shown grown l.levels l.heap l.initial.text l.initial.budget (entries_of (dict_at l.heap l.dict.0))
