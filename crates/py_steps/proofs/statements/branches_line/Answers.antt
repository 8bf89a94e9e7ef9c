use Rattle.py_steps.proofs.Lines.{branch_line, no_branch_line}
use Rattle.py_steps.proofs.statements.branches_line.Goals as goal

pub returns-in_default : goal.returns-in_default
returns-in_default c = λ ls. no_branch_line c.args.branches.now ls c.in_default.ensures.cases

pub returns : goal.returns
returns c = λ ls. branch_line c.args.branches.now _ c.in-Some.branch.now ls c.in-Some.ensures.cases.0
