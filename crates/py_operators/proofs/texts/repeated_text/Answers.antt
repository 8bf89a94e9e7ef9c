use Rattle.std.proofs.lemmas.Result.{err_from_is_err_and}
use Rattle.py_text.specs.Joining.{repeated}
use Rattle.py_operators.proofs.TextLengths.{made_stop}
use Rattle.py_operators.proofs.texts.repeated_text.Goals as goal

pub returns-in_err-text_room-clause-fault : goal.returns-in_err-text_room-clause-fault
returns-in_err-text_room-clause-fault c =
    let p = err_from_is_err_and c.from_residual.result c.from_residual.ensures.1 in
    rw (p.1, p.2) (λ n. made_stop c.args.budget.now (repeated c.args.text.now c.args.times) _ _ c.repeated_length.ensures (c.in_err-text_room.ensures {u = tt}).fault)
