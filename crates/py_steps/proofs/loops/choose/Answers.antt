use Rattle.py_state.specs.Stores.{state_of}
use Rattle.py_steps.proofs.Branches.{block_comes, others_come}
use Rattle.py_steps.proofs.loops.choose.Goals as goal

pub returns-then-truth : goal.returns-then-truth
returns-then-truth c = λ f. block_comes c.args.branch c.args.branches c.args.otherwise c.as_slice.result c.take-test.result c.args.desk.now c.take-test.new.self c.push.new.self (state_of c.args.machine.now f) c.truth.result
    c.take-test.ensures.value c.truth.ensures c.if-truth.true c.as_slice.ensures.value c.take-test.ensures.left c.in_ok-push.ensures

pub returns : goal.returns
returns c = λ f. others_come c.args.branch c.args.branches c.args.otherwise c.take-test.result c.args.desk.now c.take-test.new.self c.push-2.new.self (state_of c.args.machine.now f) c.truth.result
    c.take-test.ensures.value c.truth.ensures c.if-truth.false c.take-test.ensures.left c.in_ok-push-2.ensures
