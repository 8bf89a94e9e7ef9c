use Rattle.std.proofs.Common.{rules, ◌-◌}
use Rattle.std.proofs.lemmas.Result.{err_from_is_err_and}
use Rattle.py_heap.specs.Heap.{dict_at}
use Rattle.py_compare.specs.Equality.{equal_at, facing_items}
use Rattle.py_compare.proofs.Facing.{differing, faulting}
use Rattle.py_compare.proofs.Steps.{equal_unpaid, equal_stop}
use Rattle.py_compare.proofs.equal.+equality.Goals as goal

pub equal_entries-returns-then-not-same-clause-ok : goal.equal_entries-returns-then-not-same-clause-ok
equal_entries-returns-then-not-same-clause-ok t c =
    differing (equal_at (c.args.levels - 1) c.args.heap.now) (facing_items (dict_at c.args.heap.now c.args.dict.0) (dict_at c.args.heap.now c.args.other.0)) c.places.place c.places.budget _
    c.in-Some.item c.in-Some-under.other_item c.equal.new.budget c.places.invariant (search rules) (rw c.if-not-same.true at (c.in_ok-same.ensures {u = tt}).ok)

pub equal_entries-returns-in_err-same-clause-fault : goal.equal_entries-returns-in_err-same-clause-fault
equal_entries-returns-in_err-same-clause-fault t c =
    let p = err_from_is_err_and c.from_residual.result c.from_residual.ensures.1 in
    rw (p.1, p.2) (faulting (equal_at (c.args.levels - 1) c.args.heap.now) (facing_items (dict_at c.args.heap.now c.args.dict.0) (dict_at c.args.heap.now c.args.other.0)) c.places.place c.places.budget _
    c.in-Some.item c.in-Some-under.other_item _ c.places.invariant (search rules) (c.in_err-same.ensures {u = tt}).fault)

pub equal-returns-in_err-charge-clause-fault : goal.equal-returns-in_err-charge-clause-fault
equal-returns-in_err-charge-clause-fault t c =
    let p = err_from_is_err_and c.from_residual.result c.from_residual.ensures.1 in
    rw (p.1, p.2) (equal_unpaid c.args.levels c.args.heap.now c.args.budget.now c.args.a c.args.b _ (c.in_err-charge.ensures {u = tt}).fault)

pub equal-returns-in_err-same-clause-fault : goal.equal-returns-in_err-same-clause-fault
equal-returns-in_err-same-clause-fault t c =
    let p = err_from_is_err_and c.from_residual-in_err-same.result c.from_residual-in_err-same.ensures.1 in
    rw (p.1, p.2) (equal_stop c.args.levels c.args.heap.now c.args.budget.now _ c.args.a c.args.b _ (c.in_ok-charge.ensures {u = tt}).ok (c.in_err-same.ensures {u = tt}).fault)
