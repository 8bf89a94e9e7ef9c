use Rattle.py_meaning.specs.States.{goes_on}
use Rattle.py_steps.specs.Desks.{tasks_of, values_of}
use Rattle.py_steps.specs.Todos.{left}
use Rattle.py_steps.proofs.Simples.{statement_as, statement_unfolds, pass_or_imports, break_goes, continue_goes}
use Rattle.py_steps.proofs.statements.run_statement.Goals as goal

pub returns-in-Assign : goal.returns-in-Assign
returns-in-Assign c = λ s. statement_as c.args.simple.now _ c.args.desk.now s c.run_assign.result (left (tasks_of c.run_assign.new.desk) (values_of c.run_assign.new.desk) (goes_on s)) c.in-Assign.is (c.run_assign.ensures s)

pub returns-in_ok-augment-in-Augment : goal.returns-in_ok-augment-in-Augment
returns-in_ok-augment-in-Augment c = λ s. statement_unfolds c.args.simple.now _ c.args.desk.now s (left (tasks_of c.augment.new.desk) (values_of c.augment.new.desk) (goes_on s)) c.in-Augment.is (c.in_ok-augment-in-Augment.ensures s)

pub returns-in-Expression : goal.returns-in-Expression
returns-in-Expression c = λ s. statement_as c.args.simple.now _ c.args.desk.now s c.run_expression.result (left (tasks_of c.run_expression.new.desk) (values_of c.run_expression.new.desk) (goes_on s)) c.in-Expression.is (c.run_expression.ensures s)

pub returns-in-Pass : goal.returns-in-Pass
returns-in-Pass c = λ s. pass_or_imports c.args.simple.now c.args.desk.now s c.in-Pass.is

pub returns-in-Break : goal.returns-in-Break
returns-in-Break c = λ s. statement_unfolds c.args.simple.now _ c.args.desk.now s (left (tasks_of c.break_loop.new.self) (values_of c.break_loop.new.self) (goes_on s)) c.in-Break.is (break_goes 0 c.args.desk.now c.break_loop.new.self s c.break_loop.ensures)

pub returns-in-Continue : goal.returns-in-Continue
returns-in-Continue c = λ s. statement_unfolds c.args.simple.now _ c.args.desk.now s (left (tasks_of c.continue_loop.new.self) (values_of c.continue_loop.new.self) (goes_on s)) c.in-Continue.is (continue_goes 0 c.args.desk.now c.continue_loop.new.self s c.continue_loop.ensures)

pub returns-in-Return : goal.returns-in-Return
returns-in-Return c = λ s. statement_as c.args.simple.now _ c.args.desk.now s c.run_return.result (left (tasks_of c.run_return.new.desk) (values_of c.run_return.new.desk) (goes_on s)) c.in-Return.is (c.run_return.ensures 0 s)
