use Rattle.py_state.specs.Stores.{state_of}
use Rattle.py_steps.proofs.Slicing.{slice_goes, slice_stops}
use Rattle.py_steps.proofs.links.sliced.Goals as goal

pub returns-in_ok-give-in-Ok : goal.returns-in_ok-give-in-Ok
returns-in_ok-give-in-Ok c =
    slice_goes c.args.line (state_of c.args.machine.now c.args.frame.now) c.args.desk.now c.end_of-upper.new.desk c.end_of-lower.new.desk c.take-base.new.self c.give.new.self c.args.from c.args.to c.take-base.result c.end_of-lower.result c.end_of-upper.result c.in-Ok.value c.slice.new.heap c.slice.new.budget
    c.end_of-upper.ensures.value c.end_of-upper.ensures.left c.end_of-lower.ensures.value c.end_of-lower.ensures.left c.take-base.ensures.value c.take-base.ensures.left c.in-Ok.ensures.ok c.in_ok-give-in-Ok.ensures

pub returns-in-Err : goal.returns-in-Err
returns-in-Err c =
    slice_stops (Unit {0}) c.args.line (state_of c.args.machine.now c.args.frame.now) c.args.desk.now c.end_of-upper.new.desk c.end_of-lower.new.desk c.args.from c.args.to c.take-base.result c.end_of-lower.result c.end_of-upper.result c.in-Err.fault c.value_fault.result _
    c.end_of-upper.ensures.value c.end_of-upper.ensures.left c.end_of-lower.ensures.value c.end_of-lower.ensures.left c.take-base.ensures.value c.in-Err.ensures.fault c.value_fault.ensures.stop
