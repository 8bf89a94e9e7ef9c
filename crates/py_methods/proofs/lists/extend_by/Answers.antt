use Rattle.std.proofs.Common.{arith, ◌≡◌, ◌+◌, length, ap}
use Rattle.std.proofs.lemmas.Result.{err_from_is_err_and}
use Rattle.py_heap.specs.Heap.{list_at}
use Rattle.py_heap.specs.Units.{told_length}
use Rattle.py_methods.proofs.Extending.{extend_unpaid}
use Rattle.py_methods.proofs.lists.extend_by.Goals as goal

pub returns-in_err-charge-clause-fault : goal.returns-in_err-charge-clause-fault
returns-in_err-charge-clause-fault c =
    let p = err_from_is_err_and c.from_residual.result c.from_residual.ensures.1 in
    let told : c.saturating_add-length.result ≡ told_length (length (list_at c.args.heap.now c.args.list.0) + c.args.count) = omega (arith, c.saturating_add-length.ensures, ap length c.list_at.ensures) in
    rw (p.1, p.2) (λ n. extend_unpaid c.args.heap.now c.args.budget.now c.args.list.0 c.args.more c.args.count c.saturating_add-length.result c.iterable_bytes.result _ told (omega arith) c.iterable_bytes.ensures
    (c.in_err-charge.ensures {u = tt}).fault)
