use Rattle.py_state.specs.Stores.{state_of}
use Rattle.py_steps.specs.Leads.{left_at}
use Rattle.py_steps.proofs.Turns.{begins, begin_stops}
use Rattle.py_steps.proofs.loops.begin.Goals as goal

pub returns-in-Err : goal.returns-in-Err
returns-in-Err c =
    let s = state_of c.args.machine.now c.args.frame.now in
    begin_stops (Unit {0}) c.args.turns c.take-source.result c.args.desk.now s c.in-Err.fault c.value_fault.result (left_at c.take-source.new.self c.args.machine.now c.args.frame.now)
    c.take-source.ensures.value c.in-Err.ensures.fault c.value_fault.ensures.stop

pub returns : goal.returns
returns c =
    begins c.args.turns c.in-Ok.walk c.take-source.result c.args.desk.now c.take-source.new.self c.push.new.self (state_of c.args.machine.now c.args.frame.now)
    c.take-source.ensures.value c.in-Ok.ensures.ok c.take-source.ensures.left c.in_ok-push.ensures
