use Rattle.py_state.specs.Stores.{state_of}
use Rattle.py_steps.proofs.Operating.{operations_end, decided_goes, undecided_goes}
use Rattle.py_steps.proofs.expressions.operations.Goals as goal

pub returns-in_default : goal.returns-in_default
returns-in_default c = λ f. operations_end c.args.operations.now c.args.desk.now c.keep.new.self (state_of c.args.machine.now f) c.in_default.ensures.cases c.in_ok-keep.ensures

pub returns-then-is_decided : goal.returns-then-is_decided
returns-then-is_decided c = λ f. decided_goes c.args.operations.now c.in-Some.first.now c.in-Some.rest c.top.result c.is_decided.result c.args.desk.now c.push.new.self (state_of c.args.machine.now f) c.in-Some.ensures.cases.0 c.top.ensures c.is_decided.ensures c.if-is_decided.true c.in_ok-push.ensures

pub returns : goal.returns
returns c = λ f. undecided_goes c.args.operations.now c.in-Some.first.now c.in-Some.rest c.top.result c.is_decided.result c.args.desk.now c.operand.new.desk (state_of c.args.machine.now f) c.in-Some.ensures.cases.0 c.top.ensures c.is_decided.ensures c.if-is_decided.false c.in_ok-operand.ensures
