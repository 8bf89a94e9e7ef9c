use Rattle.py_state.specs.Stores.{state_of}
use Rattle.py_steps.proofs.Stepping.{bound_at}
use Rattle.py_steps.proofs.steps.bind.Goals as goal

pub returns : goal.returns
returns c =
    bound_at c.args.desk.now c.take-value.new.self c.args.name c.take-value.result (state_of c.args.machine.now c.args.frame.now) (state_of c.bind.new.self c.bind.new.frame)
    c.take-value.ensures.value c.take-value.ensures.left c.in_ok-bind.ensures
