use Rattle.std.proofs.lemmas.Result.{err_from_is_err_and}
use Rattle.py_state.specs.Stores.{state_of}
use Rattle.py_steps.specs.Leads.{left_at}
use Rattle.py_steps.proofs.Faults.{flows_on}
use Rattle.py_steps.proofs.Simples.{statements_end, statement_unpaid, statement_runs}
use Rattle.py_steps.proofs.statements.run_statements.Goals as goal

pub returns-in_default : goal.returns-in_default
returns-in_default c = statements_end c.args.statements.now c.args.desk.now (state_of c.args.machine.now c.args.frame.now) c.in_default.ensures.cases

pub returns-in_err-pay_for : goal.returns-in_err-pay_for
returns-in_err-pay_for c =
    let q = left_at c.push.new.self c.pay_for.new.machine c.args.frame.now in
    let s = state_of c.pay_for.new.machine c.args.frame.now in
    let p = err_from_is_err_and c.from_residual-in_err-pay_for.result c.from_residual-in_err-pay_for.ensures.1 in
    flows_on _ q s c.from_residual-in_err-pay_for.result p.0 c.in_err-pay_for.field-0.0 p.1 p.2
    (statement_unpaid c.args.statements.now c.in-Some.statement.now c.in-Some.rest c.args.desk.now c.push.new.self c.args.machine.now c.args.frame.now c.in_err-pay_for.field-0.0 q s
    c.in-Some.ensures.cases.0 c.in_ok-push.ensures c.in_err-pay_for.ensures.fault)

pub returns : goal.returns
returns c =
    statement_runs c.args.statements.now c.in-Some.statement.now c.in-Some.rest c.args.desk.now c.push.new.self c.run_statement.new.desk c.args.machine.now c.pay_for.new.machine c.args.frame.now c.run_statement.result
    c.in-Some.ensures.cases.0 c.in_ok-push.ensures c.in_ok-pay_for.ensures.ok c.pay_for.ensures.paid c.run_statement.ensures
