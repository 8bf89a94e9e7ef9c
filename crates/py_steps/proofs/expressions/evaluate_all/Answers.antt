use Rattle.py_steps.proofs.Several.{all_comes, all_over}
use Rattle.py_steps.proofs.expressions.evaluate_all.Goals as goal

pub returns-in_default : goal.returns-in_default
returns-in_default c = λ s. all_over c.args.exprs.now c.args.desk.now s c.in_default.ensures.cases

pub returns : goal.returns
returns c = λ s. all_comes c.args.exprs.now c.in-Some.first c.in-Some.rest c.args.desk.now c.evaluate.new.self s c.in-Some.ensures.cases.0 c.in_ok-evaluate.ensures
