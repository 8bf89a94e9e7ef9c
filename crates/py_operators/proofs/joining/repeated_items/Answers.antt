use Rattle.std.proofs.lemmas.Result.{err_from_is_err_and}
use Rattle.py_operators.proofs.Lengths.{repeated_stop}
use Rattle.py_operators.proofs.joining.repeated_items.Goals as goal

pub returns-in_err-list_room-clause-fault : goal.returns-in_err-list_room-clause-fault
returns-in_err-list_room-clause-fault c =
    let p = err_from_is_err_and c.from_residual.result c.from_residual.ensures.1 in
    rw (p.1, p.2) (λ n. repeated_stop c.args.budget.now c.args.items.now c.args.times _ _ c.saturating_mul.ensures (c.in_err-list_room.ensures {u = tt}).fault)
