use Rattle.py_state.specs.Stores.{state_of}
use Rattle.py_steps.proofs.Combining.{combine_stops, combine_goes}
use Rattle.py_steps.proofs.assignments.combine.Goals as goal

pub returns-in-Err : goal.returns-in-Err
returns-in-Err c =
    combine_stops (Unit {0}) c.args.line c.args.operator (state_of c.args.machine.now c.args.frame.now) c.args.desk.now c.take-right.new.self c.take-left.result c.take-right.result c.in-Err.fault c.value_fault.result _
    c.take-right.ensures.value c.take-right.ensures.left c.take-left.ensures.value c.in-Err.ensures.fault c.value_fault.ensures.stop

pub returns : goal.returns
returns c =
    combine_goes c.args.line c.args.operator (state_of c.args.machine.now c.args.frame.now) c.args.desk.now c.take-right.new.self c.take-left.new.self c.give.new.self c.take-left.result c.take-right.result c.in-Ok.value c.augmented-made.new.heap c.augmented-made.new.budget
    c.take-right.ensures.value c.take-right.ensures.left c.take-left.ensures.value c.take-left.ensures.left c.in-Ok.ensures.ok c.in_ok-give.ensures
