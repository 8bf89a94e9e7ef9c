use Rattle.std.proofs.lemmas.Result.{err_from_is_err_and}
use Rattle.py_state.specs.Stores.{state_of}
use Rattle.py_steps.specs.Leads.{left_at}
use Rattle.py_steps.proofs.Faults.{hands_on}
use Rattle.py_steps.proofs.Rounds.{round_over, round_unpaid, round_runs}
use Rattle.py_steps.proofs.loops.run_round.Goals as goal

pub returns-then-not-truth : goal.returns-then-not-truth
returns-then-not-truth c =
    round_over c.args.round c.take-test.result c.args.desk.now c.take-test.new.self (state_of c.args.machine.now c.args.frame.now) c.truth.result
    c.take-test.ensures.value c.truth.ensures c.if-not-truth.true c.take-test.ensures.left

pub returns-in_err-pay : goal.returns-in_err-pay
returns-in_err-pay c =
    let s = state_of c.args.machine.now c.args.frame.now in
    let q = left_at c.take-test.new.self c.pay.new.self c.args.frame.now in
    let p = err_from_is_err_and c.from_residual.result c.from_residual.ensures.1 in
    hands_on (Unit {0}) (Unit {0}) _ q q c.from_residual.result p.0 c.in_err-pay.field-0.0 p.1 p.2
    (round_unpaid (Unit {0}) c.args.round c.take-test.result c.args.desk.now s c.truth.result c.in_err-pay.field-0.0 q
    c.take-test.ensures.value c.truth.ensures c.if-not-truth.false c.in_err-pay.ensures.fault)

pub returns : goal.returns
returns c =
    round_runs c.args.round c.take-test.result c.args.desk.now c.take-test.new.self c.push.new.self c.push-2.new.self c.args.machine.now c.pay.new.self c.args.frame.now c.truth.result
    c.take-test.ensures.value c.truth.ensures c.if-not-truth.false c.in_ok-pay.ensures.ok c.pay.ensures.paid c.take-test.ensures.left c.in_ok-push.ensures c.in_ok-push-2.ensures
