use Rattle.std.proofs.Common.{arith}
use Rattle.std.proofs.lemmas.Result.{err_from_is_err_and}
use Rattle.py_heap.specs.Heap.{dict_at}
use Rattle.py_methods.proofs.Pairs.{pairs_unpaid}
use Rattle.py_methods.proofs.many.pairs_paid.Goals as goal

pub returns-in_err-charge-clause-fault : goal.returns-in_err-charge-clause-fault
returns-in_err-charge-clause-fault c =
    let p = err_from_is_err_and c.from_residual.result c.from_residual.ensures.1 in
    rw (p.1, p.2) (λ n. pairs_unpaid c.args.budget.now (dict_at c.args.heap.now c.args.dict.0) _ (omega arith) (rw c.dict_len-count.ensures at (c.in_err-charge.ensures {u = tt}).fault))
