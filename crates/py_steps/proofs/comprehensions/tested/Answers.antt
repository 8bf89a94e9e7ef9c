use Rattle.py_state.specs.Stores.{state_of}
use Rattle.py_steps.proofs.Items.{test_holds, test_fails}
use Rattle.py_steps.proofs.comprehensions.tested.Goals as goal

pub returns-then-truth : goal.returns-then-truth
returns-then-truth c = λ f. test_holds c.args.collecting c.args.tests c.take-value.result c.args.desk.now c.take-value.new.self c.push.new.self (state_of c.args.machine.now f) c.truth.result
    c.take-value.ensures.value c.truth.ensures c.if-truth.true c.take-value.ensures.left c.in_ok-push.ensures

pub returns : goal.returns
returns c = λ f. test_fails c.args.collecting c.args.tests c.take-value.result c.args.desk.now c.take-value.new.self c.push-2.new.self (state_of c.args.machine.now f) c.truth.result
    c.take-value.ensures.value c.truth.ensures c.if-truth.false c.take-value.ensures.left c.in_ok-push-2.ensures
