use Rattle.std.proofs.Common.{◌∙◌}
use Rattle.std.proofs.lemmas.Result.{err_from_is_err_and}
use Rattle.py_steps.proofs.Displays.{dict_unmade, dict_unpaid, dict_paid, is_dict}
use Rattle.py_steps.proofs.expressions.dict_displayed.Goals as goal

pub returns-in_err-made-clause-fault : goal.returns-in_err-made-clause-fault
returns-in_err-made-clause-fault c =
    let p = err_from_is_err_and c.from_residual-in_err-made.result c.from_residual-in_err-made.ensures.1 in
    rw (p.1, p.2) (λ m. dict_unmade c.args.heap.now c.args.budget.now c.as_slice.result.now c.args.values.now c.in_err-made.field-0.0 (c.as_slice.ensures.value ∙ c.in_ok-pairs.ensures) (c.in_err-made.ensures.fault m))

pub returns-in_default : goal.returns-in_default
returns-in_default c =
    absurd (c.in_default.not-Dict _ (is_dict c.args.heap.now c.dict.new.self c.as_slice.result.now c.args.values.now c.in_ok-made.made (c.as_slice.ensures.value ∙ c.in_ok-pairs.ensures) c.in_ok-made.ensures.ok))

pub returns-in_err-list_room-clause-fault : goal.returns-in_err-list_room-clause-fault
returns-in_err-list_room-clause-fault c =
    let p = err_from_is_err_and c.from_residual-in_err-list_room.result c.from_residual-in_err-list_room.ensures.1 in
    rw (p.1, p.2) (λ m. dict_unpaid c.args.heap.now c.dict.new.self c.args.budget.now c.as_slice.result.now c.args.values.now c.in_ok-made.made c.in-Dict.dict c.dict_len.result c.in_err-list_room.field-0.0
    (c.as_slice.ensures.value ∙ c.in_ok-pairs.ensures) c.in_ok-made.ensures.ok c.in-Dict.is c.dict_len.ensures c.in_err-list_room.ensures.fault)

pub returns-clause-ok : goal.returns-clause-ok
returns-clause-ok c =
    dict_paid c.args.heap.now c.dict.new.self c.args.budget.now c.list_room.new.budget c.as_slice.result.now c.args.values.now c.in_ok-made.made c.in-Dict.dict c.dict_len.result
    (c.as_slice.ensures.value ∙ c.in_ok-pairs.ensures) c.in_ok-made.ensures.ok c.in-Dict.is c.dict_len.ensures c.in_ok-list_room.ensures.ok
