use Rattle.py_state.proofs.Forms.{augmented_other}
use Rattle.py_state.proofs.operators.augmented.Goals as goal

pub returns-in_default : goal.returns-in_default
returns-in_default c =
    rw (augmented_other c.args.operator c.args.heap.now c.args.budget.now c.args.a c.args.b c.in_default.not-List, ← c.operator_op-in_default.ensures)
    (record { ok = c.binary-in_default.ensures.ok; fault = c.binary-in_default.ensures.fault })
