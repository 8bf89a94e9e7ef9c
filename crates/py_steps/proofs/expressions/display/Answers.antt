use Rattle.py_steps.specs.Leads.{left_at}
use Rattle.py_steps.proofs.Displays.{display_goes, display_stops}
use Rattle.py_steps.proofs.expressions.display.Goals as goal

pub returns-in-Err : goal.returns-in-Err
returns-in-Err c =
    display_stops (Unit {0}) c.args.shape c.args.line c.args.base c.args.desk.now c.args.machine.now c.args.frame.now c.in_ok-values.values.items c.as_slice.result.now c.in-Err.fault c.value_fault.result (left_at c.take_above.new.self (record c.args.machine.now { heap = c.displayed-made.new.heap; budget = c.displayed-made.new.budget }) c.args.frame.now)
    c.in_ok-values.ensures.values c.as_slice.ensures.value c.in-Err.ensures.fault c.value_fault.ensures.stop

pub returns : goal.returns
returns c =
    display_goes c.args.shape c.args.line c.args.base c.args.desk.now c.take_above.new.self c.give.new.self c.args.machine.now c.args.frame.now c.in_ok-values.values.items c.as_slice.result.now c.in-Ok.value c.displayed-made.new.heap c.displayed-made.new.budget
    c.in_ok-values.ensures.values c.in_ok-values.ensures.left c.as_slice.ensures.value c.in-Ok.ensures.ok c.in_ok-give.ensures
