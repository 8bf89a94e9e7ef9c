use Rattle.std.proofs.Common.{arith}
use Rattle.std.proofs.lemmas.Result.{err_from_is_err_and}
use Rattle.py_methods.proofs.ManyTexts.{texts_unpaid}
use Rattle.py_methods.proofs.many.texts_paid.Goals as goal

pub returns-in_err-charge-clause-fault : goal.returns-in_err-charge-clause-fault
returns-in_err-charge-clause-fault c =
    let p = err_from_is_err_and c.from_residual-in_err-charge.result c.from_residual-in_err-charge.ensures.1 in
    rw (p.1, p.2) (λ n. texts_unpaid _ c.args.budget.now c.args.texts.now c.in_ok-units.units _ (omega arith) (c.in_ok-units.ensures {u = tt}) (c.in_err-charge.ensures {u = tt}).fault)
