use Rattle.py_state.specs.Stores.{state_of}
use Rattle.py_steps.proofs.Picking.{picks_first, picks_other}
use Rattle.py_steps.proofs.expressions.pick.Goals as goal

pub returns-then-truth : goal.returns-then-truth
returns-then-truth c = λ f. picks_first c.args.value c.args.other c.take-test.result c.args.desk.now c.take-test.new.self c.push.new.self (state_of c.args.machine.now f) c.truth.result
    c.take-test.ensures.value c.truth.ensures c.if-truth.true c.take-test.ensures.left c.in_ok-push.ensures

pub returns : goal.returns
returns c = λ f. picks_other c.args.value c.args.other c.take-test.result c.args.desk.now c.take-test.new.self c.push-2.new.self (state_of c.args.machine.now f) c.truth.result
    c.take-test.ensures.value c.truth.ensures c.if-truth.false c.take-test.ensures.left c.in_ok-push-2.ensures
