use Rattle.py_steps.specs.Leads.{left_at}
use Rattle.py_steps.proofs.Joining.{join_goes, join_stops}
use Rattle.py_steps.proofs.texts.join.Goals as goal

pub returns-in-Err : goal.returns-in-Err
returns-in-Err c =
    join_stops (Unit {0}) c.args.line c.args.base c.args.pieces c.args.desk.now c.args.machine.now c.args.frame.now c.in_ok-values.values.items c.as_slice.result.now c.in-Err.fault c.value_fault.result (left_at c.take_above.new.self (record c.args.machine.now { heap = c.joined-made.new.heap; budget = c.joined-made.new.budget }) c.args.frame.now)
    c.in_ok-values.ensures.values c.as_slice.ensures.value c.in-Err.ensures.fault c.value_fault.ensures.stop

pub returns : goal.returns
returns c =
    join_goes c.args.line c.args.base c.args.pieces c.args.desk.now c.take_above.new.self c.give.new.self c.args.machine.now c.args.frame.now c.in_ok-values.values.items c.as_slice.result.now c.in-Ok.text c.joined-made.new.heap c.joined-made.new.budget
    c.in_ok-values.ensures.values c.in_ok-values.ensures.left c.as_slice.ensures.value c.in-Ok.ensures.ok c.in_ok-give.ensures
