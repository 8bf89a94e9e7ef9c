use Rattle.py_state.specs.Stores.{state_of}
use Rattle.py_steps.specs.Desks.{tasks_of, values_of}
use Rattle.py_steps.specs.Leads.{left_at}
use Rattle.py_steps.proofs.Lines.{lines_end, lines_lead}
use Rattle.py_steps.proofs.statements.run_lines.Goals as goal

pub returns-in_default : goal.returns-in_default
returns-in_default c = lines_end c.args.lines.now (tasks_of c.args.desk.now) (values_of c.args.desk.now) (state_of c.args.machine.now c.args.frame.now) c.in_default.ensures.cases

pub returns : goal.returns
returns c = lines_lead c.args.lines.now c.in-Some.line.now c.in-Some.rest c.args.desk.now c.push.new.self (state_of c.args.machine.now c.args.frame.now) c.run_line.result (left_at c.run_line.new.desk c.run_line.new.machine c.args.frame.now)
    c.in-Some.ensures.cases.0 c.in_ok-push.ensures c.run_line.ensures
