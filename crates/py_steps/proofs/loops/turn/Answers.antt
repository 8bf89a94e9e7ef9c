use Rattle.std.proofs.lemmas.Result.{err_from_is_err_and}
use Rattle.py_state.specs.Stores.{state_of}
use Rattle.py_steps.specs.Leads.{left_at}
use Rattle.py_steps.specs.Desks.{tasks_of, values_of}
use Rattle.py_steps.proofs.Faults.{hands_on}
use Rattle.py_steps.proofs.Turns.{no_turn_at, turn_unpaid, turn_stops_at, turn_at}
use Rattle.py_steps.proofs.loops.turn.Goals as goal

pub returns-in_default : goal.returns-in_default
returns-in_default c =
    no_turn_at c.args.turns c.args.walk (tasks_of c.args.desk.now) (values_of c.args.desk.now) (state_of c.args.machine.now c.args.frame.now) c.next.new.heap c.in_ok-item.field-0 c.next.result
    c.in_ok-item.ensures.item c.in_default.is c.in_ok-item.was c.next.ensures.none

pub returns-in_err-pay : goal.returns-in_err-pay
returns-in_err-pay c =
    let s = state_of c.args.machine.now c.args.frame.now in
    let p = err_from_is_err_and c.from_residual-in_err-pay.result c.from_residual-in_err-pay.ensures.1 in
    hands_on (Unit {0}) (Unit {0}) _ _ (left_at c.args.desk.now c.pay.new.self c.args.frame.now) c.from_residual-in_err-pay.result p.0 c.in_err-pay.field-0.0 p.1 p.2
    (turn_unpaid (Unit {0}) c.args.turns c.args.walk c.in-Some.rest c.in-Some.item (tasks_of c.args.desk.now) (values_of c.args.desk.now) s c.next.new.heap c.in_ok-item.field-0 c.in_err-pay.field-0.0 (left_at c.args.desk.now c.pay.new.self c.args.frame.now)
    c.in_ok-item.ensures.item c.in-Some.is c.in_err-pay.ensures.fault)

pub returns-in-Err : goal.returns-in-Err
returns-in-Err c =
    let s = state_of c.args.machine.now c.args.frame.now in
    turn_stops_at (Unit {0}) c.args.turns c.args.walk c.in-Some.rest c.in-Some.item c.args.desk.now c.args.machine.now c.pay.new.self c.args.frame.now c.next.new.heap c.in_ok-item.field-0 c.in-Err.fault c.value_fault.result (left_at c.push.new.self c.shared.new.machine c.args.frame.now)
    c.in_ok-item.ensures.item c.in-Some.is c.in_ok-pay.ensures.ok c.pay.ensures.paid c.in-Err.ensures.fault c.value_fault.ensures.stop

pub returns : goal.returns
returns c =
    turn_at c.args.turns c.args.walk c.in-Some.rest c.in-Some.item c.args.desk.now c.push.new.self c.push-2.new.self c.args.machine.now c.pay.new.self c.shared.new.machine c.bind_all.new.machine c.args.frame.now c.bind_all.new.frame c.next.new.heap c.in_ok-item.field-0 c.in-Ok.items c.as_slice.result.now
    c.in_ok-item.ensures.item c.in-Some.is c.in_ok-pay.ensures.ok c.pay.ensures.paid c.in_ok-push.ensures c.in-Ok.ensures.ok c.shared.ensures.keeps c.as_slice.ensures c.in_ok-bind_all.ensures c.in_ok-push-2.ensures
