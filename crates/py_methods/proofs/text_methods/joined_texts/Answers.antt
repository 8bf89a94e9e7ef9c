use Rattle.std.proofs.Common.{rules}
use Rattle.std.proofs.lemmas.Result.{err_from_is_err_and}
use Rattle.py_heap.specs.declared.value.Value.TheVariants as v
use Rattle.py_heap.specs.Heap.{text_at}
use Rattle.py_methods.proofs.MadeTexts.{join_stop}
use Rattle.py_methods.proofs.text_methods.joined_texts.Goals as goal

pub returns-in_err-text_room-clause-fault : goal.returns-in_err-text_room-clause-fault
returns-in_err-text_room-clause-fault c =
    let p = err_from_is_err_and c.from_residual-in_err-text_room.result c.from_residual-in_err-text_room.ensures.1 in
    rw (p.1, p.2) (λ n. join_stop c.args.heap.now c.args.budget.now (v.Text c.args.text) (text_at c.args.heap.now c.args.text.0) c.args.items.now _ c.joined_length.result _
    (c.in_ok-parts.ensures {u = tt}).ok (search rules) (c.in_err-text_room.ensures {u = tt}).fault)
