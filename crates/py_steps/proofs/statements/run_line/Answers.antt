use Rattle.py_tree.specs.declared.line.Line.TheVariants as line'
use Rattle.py_state.specs.Stores.{state_of}
use Rattle.py_steps.specs.Leads.{left_at}
use Rattle.py_steps.proofs.Lines.{line_as, line_unfolds, simple_opens, simple_tree_of, if_tree, for_tree, while_tree, def_tree}
use Rattle.py_steps.proofs.statements.run_line.Goals as goal

pub returns-in_ok-push-in-Simple : goal.returns-in_ok-push-in-Simple
returns-in_ok-push-in-Simple c =
    let s = state_of c.args.machine.now c.args.frame.now in
    line_unfolds c.args.line.now (line'.Simple c.in-Simple.statements) _ c.args.desk.now s (left_at c.push.new.self c.args.machine.now c.args.frame.now) c.in-Simple.is
    (simple_tree_of c.in-Simple.statements c.as_slice.result.now c.as_slice.ensures.value) (simple_opens c.as_slice.result c.args.desk.now c.push.new.self s c.in_ok-push-in-Simple.ensures)

pub returns-in-If : goal.returns-in-If
returns-in-If c =
    line_as c.args.line.now (line'.If c.in-If.branches c.in-If.otherwise) _ c.args.desk.now (state_of c.args.machine.now c.args.frame.now) c.run_if.result (left_at c.run_if.new.desk c.run_if.new.machine c.args.frame.now) c.in-If.is
    (if_tree c.in-If.branches c.in-If.otherwise c.as_slice-in-If.result.now c.as_slice-in-If-2.result.now c.as_slice-in-If.ensures.value c.as_slice-in-If-2.ensures.value) c.run_if.ensures

pub returns-in-For : goal.returns-in-For
returns-in-For c =
    line_as c.args.line.now (line'.For c.in-For.line c.in-For.names c.in-For.source c.in-For.block) _ c.args.desk.now (state_of c.args.machine.now c.args.frame.now) c.run_for.result (left_at c.run_for.new.desk c.run_for.new.machine c.args.frame.now) c.in-For.is
    (for_tree c.in-For.line c.in-For.names c.in-For.source c.in-For.block c.as_slice-in-For.result.now c.as_slice-in-For-2.result.now c.as_slice-in-For.ensures.value c.as_slice-in-For-2.ensures.value) c.run_for.ensures

pub returns-in-While : goal.returns-in-While
returns-in-While c =
    line_as c.args.line.now (line'.While c.in-While.line c.in-While.test c.in-While.block) _ c.args.desk.now (state_of c.args.machine.now c.args.frame.now) c.run_while.result (left_at c.run_while.new.desk c.run_while.new.machine c.args.frame.now) c.in-While.is
    (while_tree c.in-While.line c.in-While.test c.in-While.block c.as_slice-in-While.result.now c.as_slice-in-While.ensures.value) c.run_while.ensures

pub returns-in-Def : goal.returns-in-Def
returns-in-Def c =
    line_as c.args.line.now (line'.Def c.in-Def.line c.in-Def.name c.in-Def.parameters c.in-Def.block) _ c.args.desk.now (state_of c.args.machine.now c.args.frame.now) c.run_def.result (left_at c.run_def.new.desk c.run_def.new.machine c.args.frame.now) c.in-Def.is
    (def_tree c.in-Def.line c.in-Def.name c.in-Def.parameters c.in-Def.block c.as_slice-in-Def.result.now c.as_slice-in-Def.ensures.value) c.run_def.ensures
