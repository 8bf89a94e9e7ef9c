use Rattle.py_steps.proofs.Simples.{expression_goes}
use Rattle.py_steps.proofs.statements.run_expression.Goals as goal

pub returns : goal.returns
returns c = λ s. expression_goes c.args.value c.args.desk.now c.evaluate.new.self s c.in_ok-evaluate.ensures
