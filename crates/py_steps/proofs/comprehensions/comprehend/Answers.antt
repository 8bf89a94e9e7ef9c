use Rattle.py_state.specs.Stores.{state_of}
use Rattle.py_steps.specs.Leads.{left_at}
use Rattle.py_steps.proofs.Items.{comprehends, comprehend_stops}
use Rattle.py_steps.proofs.comprehensions.comprehend.Goals as goal

pub returns-in-Err : goal.returns-in-Err
returns-in-Err c =
    comprehend_stops (Unit {0}) c.args.comprehension c.take-source.result c.args.desk.now (state_of c.args.machine.now c.args.frame.now) c.in-Err.fault c.value_fault.result (left_at c.take-source.new.self c.args.machine.now c.args.frame.now)
    c.take-source.ensures.value c.in-Err.ensures.fault c.value_fault.ensures.stop

pub returns : goal.returns
returns c =
    comprehends c.args.comprehension c.in-Ok.walk c.take-source.result c.args.desk.now c.take-source.new.self c.push.new.self c.args.machine.now c.args.frame.now c.open.new.self
    c.take-source.ensures.value c.in-Ok.ensures.ok c.in_ok-open.ensures.ok c.take-source.ensures.left c.in_ok-push.ensures
