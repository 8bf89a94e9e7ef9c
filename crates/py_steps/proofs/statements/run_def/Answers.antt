use Rattle.std.proofs.Common.{map, refl}
use Rattle.std.proofs.lemmas.Result.{err_from_is_err_and}
use Rattle.py_tree.specs.Tree.{def, trees, line_tree}
use Rattle.py_meaning.specs.Statements.{statement}
use Rattle.py_state.specs.Stores.{state_of}
use Rattle.py_steps.specs.Desks.{tasks_of, values_of}
use Rattle.py_steps.specs.Leads.{left_at, exec_at}
use Rattle.py_steps.specs.Todos.{parameters_in}
use Rattle.py_steps.specs.declared.task.Task.TheVariants as task
use Rattle.py_steps.proofs.Faults.{hands_on}
use Rattle.py_steps.proofs.Lines.{exec_unpaid, exec_paid, def_pays, def_opens}
use Rattle.py_steps.proofs.Turns.{two_on}
use Rattle.py_steps.proofs.statements.run_def.Goals as goal

pub returns-in_err-pay : goal.returns-in_err-pay
returns-in_err-pay c =
    let s = state_of c.args.machine.now c.args.frame.now in
    let l = c.args.line in
    let n = c.args.definition.name.now in
    let ps = parameters_in c.args.definition in
    let ls = trees (map line_tree c.args.definition.block.now.value.items) in
    let q = left_at c.args.desk.now c.pay.new.self c.args.frame.now in
    let p = err_from_is_err_and c.from_residual.result c.from_residual.ensures.1 in
    hands_on (Unit {0}) (Unit {0}) (exec_at (def l n ps ls) c.args.desk.now s) q q c.from_residual.result p.0 c.in_err-pay.field-0.0 p.1 p.2
    (exec_unpaid (Unit {0}) (def l n ps ls) l c.args.desk.now c.args.machine.now c.args.frame.now (statement (def l n ps ls)) c.in_err-pay.field-0.0 q
    (def_pays l n ps ls s) c.in_err-pay.ensures.fault)

pub returns : goal.returns
returns c =
    let s = state_of c.args.machine.now c.args.frame.now in
    let l = c.args.line in
    let n = c.args.definition.name.now in
    let ps = parameters_in c.args.definition in
    let ls = trees (map line_tree c.args.definition.block.now.value.items) in
    let d = c.args.desk.now in
    let base = c.height-base.result in
    exec_paid (def l n ps ls) l d c.push-2.new.self c.args.machine.now c.pay.new.self c.args.frame.now (statement (def l n ps ls)) _
    (def_pays l n ps ls s) c.in_ok-pay.ensures.ok c.pay.ensures.paid (two_on d c.push.new.self c.push-2.new.self (task.Define c.args.definition base) (task.Defaults c.args.definition.parameters) c.in_ok-push.ensures c.in_ok-push-2.ensures)
    (λ s1. def_opens c.args.definition l c.args.definition.parameters base (tasks_of d) (values_of d) s1 refl c.height-base.ensures)
