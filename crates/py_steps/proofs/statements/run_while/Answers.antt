use Rattle.std.proofs.Common.{map}
use Rattle.std.proofs.lemmas.Result.{err_from_is_err_and}
use Rattle.py_tree.specs.Tree.{while', trees, line_tree, expr_tree}
use Rattle.py_meaning.specs.Statements.{statement}
use Rattle.py_state.specs.Stores.{state_of}
use Rattle.py_steps.specs.Desks.{tasks_of, values_of}
use Rattle.py_steps.specs.Leads.{left_at, exec_at}
use Rattle.py_steps.proofs.Faults.{hands_on}
use Rattle.py_steps.proofs.Lines.{exec_unpaid, exec_paid}
use Rattle.py_steps.proofs.Rounds.{while_pays, while_opens}
use Rattle.py_steps.proofs.statements.run_while.Goals as goal

pub returns-in_err-pay : goal.returns-in_err-pay
returns-in_err-pay c =
    let s = state_of c.args.machine.now c.args.frame.now in
    let l = c.args.round.line in
    let e = expr_tree c.args.round.test.now in
    let ls = trees (map line_tree c.args.round.block.now) in
    let q = left_at c.args.desk.now c.pay.new.self c.args.frame.now in
    let p = err_from_is_err_and c.from_residual.result c.from_residual.ensures.1 in
    hands_on (Unit {0}) (Unit {0}) (exec_at (while' l e ls) c.args.desk.now s) q q c.from_residual.result p.0 c.in_err-pay.field-0.0 p.1 p.2
    (exec_unpaid (Unit {0}) (while' l e ls) l c.args.desk.now c.args.machine.now c.args.frame.now (statement (while' l e ls)) c.in_err-pay.field-0.0 q
    (while_pays l e ls s) c.in_err-pay.ensures.fault)

pub returns : goal.returns
returns c =
    let s = state_of c.args.machine.now c.args.frame.now in
    let l = c.args.round.line in
    let e = expr_tree c.args.round.test.now in
    let ls = trees (map line_tree c.args.round.block.now) in
    let d = c.args.desk.now in
    exec_paid (while' l e ls) l d c.push.new.self c.args.machine.now c.pay.new.self c.args.frame.now (statement (while' l e ls)) _
    (while_pays l e ls s) c.in_ok-pay.ensures.ok c.pay.ensures.paid c.in_ok-push.ensures
    (while_opens c.args.round (tasks_of d) (values_of d))
