use Rattle.std.proofs.Common.{map}
use Rattle.std.proofs.lemmas.Result.{err_from_is_err_and}
use Rattle.py_text.specs.Views.{plain_piece}
use Rattle.py_operators.proofs.Fillings.{filled_not, filled_unpaid}
use Rattle.py_operators.proofs.remainders.filled.Goals as goal

pub returns-in_err-push_pieces-clause-fault : goal.returns-in_err-push_pieces-clause-fault
returns-in_err-push_pieces-clause-fault c =
    let p = err_from_is_err_and c.from_residual-in_err-push_pieces.result c.from_residual-in_err-push_pieces.ensures.1 in
    rw (p.1, p.2)
    (λ n. filled_not c.args.heap.now c.args.budget.now c.args.format.now (map plain_piece c.as_slice.result.now) c.args.values.now (let read = c.in_ok-pieces.ensures.ok in let whole = c.as_slice.ensures.value in cc) _
    (let stopped = c.in_err-push_pieces.ensures.fault n in cc))

pub returns-in_err-text_room-clause-fault : goal.returns-in_err-text_room-clause-fault
returns-in_err-text_room-clause-fault c =
    let p = err_from_is_err_and c.from_residual-in_err-text_room.result c.from_residual-in_err-text_room.ensures.1 in
    rw (p.1, p.2)
    (λ n. filled_unpaid c.args.heap.now c.args.budget.now c.args.format.now (map plain_piece c.as_slice.result.now) c.args.values.now (let read = c.in_ok-pieces.ensures.ok in let whole = c.as_slice.ensures.value in cc)
    c.push_pieces.new.text c.push_pieces.new.budget _ (let grew = c.in_ok-push_pieces.ensures.ok in cc) (let unpaid = c.in_err-text_room.ensures.fault in cc))
