use Rattle.std.proofs.Common.{arith, refl}
use Rattle.py_meaning.specs.States.{with_objects}
use Rattle.py_state.specs.Stores.{state_of}
use Rattle.py_steps.proofs.Assigning.{items_go, items_stop}
use Rattle.py_steps.proofs.assignments.assign_items.Goals as goal

pub returns-in-Err : goal.returns-in-Err
returns-in-Err c = λ l b f.
    items_stop (Unit {0}) c.args.line l c.args.targets.now b c.args.value (state_of c.args.machine.now c.args.frame.now) f c.in_ok-names.names.items c.len.result c.in-Err.fault c.value_fault.result _
    c.in_ok-names.ensures (omega (arith, c.len.ensures, c.in_ok-names.names.ok.0)) c.in-Err.ensures.fault c.value_fault.ensures.stop

pub returns : goal.returns
returns c = λ l b f.
    let s = state_of c.args.machine.now c.args.frame.now in
    items_go c.args.line l c.args.targets.now b c.args.value s (with_objects s c.unpacked.new.heap) (state_of c.bind_all.new.machine c.bind_all.new.frame) f c.in_ok-names.names.items c.as_slice.result.now c.len.result c.unpacked.new.heap c.in-Ok.values c.as_slice-2.result.now
    c.in_ok-names.ensures (omega (arith, c.len.ensures, c.in_ok-names.names.ok.0)) c.in-Ok.ensures.ok refl c.as_slice.ensures.value c.as_slice-2.ensures c.in_ok-bind_all.ensures
