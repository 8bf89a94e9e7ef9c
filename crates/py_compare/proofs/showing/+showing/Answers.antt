use Rattle.std.proofs.Common.{rules, ◌-◌, true}
use Rattle.std.proofs.lemmas.Result.{err_from_is_err_and}
use Rattle.py_heap.specs.Heap.{dict_at}
use Rattle.py_compare.specs.Growing.{grown}
use Rattle.py_compare.specs.Showing.{show_at, entries_of}
use Rattle.py_compare.proofs.Entries.{entry_shown, entry_faults}
use Rattle.py_compare.proofs.Shows.{show_unpaid, show_stop}
use Rattle.py_compare.proofs.showing.+showing.Goals as goal

pub show_onto-returns-in_err-charge-clause-fault : goal.show_onto-returns-in_err-charge-clause-fault
show_onto-returns-in_err-charge-clause-fault t c =
    let p = err_from_is_err_and c.from_residual.result c.from_residual.ensures.1 in
    rw (p.1, p.2) (show_unpaid c.args.levels c.args.heap.now c.args.quoted c.args.text.now c.args.budget.now c.args.value _ (c.in_err-charge.ensures {u = tt}).fault)

pub show_onto-returns-in_err-show_inside-clause-fault : goal.show_onto-returns-in_err-show_inside-clause-fault
show_onto-returns-in_err-show_inside-clause-fault t c =
    let p = err_from_is_err_and c.from_residual-in_err-show_inside.result c.from_residual-in_err-show_inside.ensures.1 in
    rw (p.1, p.2) (show_stop c.args.levels c.args.heap.now c.args.quoted c.args.text.now c.args.budget.now _ c.args.value _ (c.in_ok-charge.ensures {u = tt}).ok (c.in_err-show_inside.ensures {u = tt}).fault)

pub show_entries-returns-in_err-show_entry-clause-fault : goal.show_entries-returns-in_err-show_entry-clause-fault
show_entries-returns-in_err-show_entry-clause-fault t c =
    let p = err_from_is_err_and c.from_residual-in_err-show_entry.result c.from_residual-in_err-show_entry.ensures.1 in
    rw (p.1, p.2) (entry_faults (show_at grown (c.args.levels - 1) c.args.heap.now true) (entries_of (dict_at c.args.heap.now c.args.dict.0)) c.places.place c.places.text c.put.new.self
    c.places.budget c.in-Some.entry _ _ c.places.invariant (search rules) (search rules) (c.in_err-show_entry.ensures {u = tt}).fault)

pub show_entries-places-preserved : goal.show_entries-places-preserved
show_entries-places-preserved t c =
    entry_shown (show_at grown (c.args.levels - 1) c.args.heap.now true) (entries_of (dict_at c.args.heap.now c.args.dict.0)) c.places.place c.places.text c.put.new.self
    c.places.budget c.in-Some.entry _ c.show_entry.new.text c.show_entry.new.budget c.places.invariant (search rules) (search rules) (c.in_ok-show_entry.ensures {u = tt}).ok
