use Rattle.std.proofs.lemmas.Result.{err_from_is_err_and}
use Rattle.py_state.specs.Stores.{state_of}
use Rattle.py_steps.specs.Leads.{left_at}
use Rattle.py_steps.proofs.Faults.{hands_on}
use Rattle.py_steps.proofs.Items.{tests_end, test_unpaid, test_comes}
use Rattle.py_steps.proofs.comprehensions.test.Goals as goal

pub returns-in_default : goal.returns-in_default
returns-in_default c = tests_end c.args.collecting c.args.tests c.args.desk.now c.push_item.new.desk (state_of c.args.machine.now c.args.frame.now) c.in_default.ensures.cases c.in_ok-push_item.ensures

pub returns-in_err-pay : goal.returns-in_err-pay
returns-in_err-pay c =
    let p = err_from_is_err_and c.from_residual-in_err-pay.result c.from_residual-in_err-pay.ensures.1 in
    let q = left_at c.args.desk.now c.pay.new.self c.args.frame.now in
    hands_on (Unit {0}) (Unit {0}) _ _ q c.from_residual-in_err-pay.result p.0 c.in_err-pay.field-0.0 p.1 p.2
    (test_unpaid (Unit {0}) c.args.collecting c.args.tests c.in-Some.first.now c.in-Some.rest.now c.args.desk.now (state_of c.args.machine.now c.args.frame.now) c.in_err-pay.field-0.0 q
    c.in-Some.ensures.cases.0 c.in_err-pay.ensures.fault)

pub returns : goal.returns
returns c = test_comes c.args.collecting c.args.tests c.in-Some.first c.in-Some.rest c.args.desk.now c.evaluate.new.self c.args.machine.now c.pay.new.self c.args.frame.now
    c.in-Some.ensures.cases.0 c.in_ok-pay.ensures.ok c.pay.ensures.paid c.in_ok-evaluate.ensures
