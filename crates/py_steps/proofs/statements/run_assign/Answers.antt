use Rattle.py_steps.proofs.Simples.{assign_goes}
use Rattle.py_steps.proofs.statements.run_assign.Goals as goal

pub returns : goal.returns
returns c = λ s. assign_goes c.args.line c.args.target c.args.value c.args.desk.now c.evaluate.new.self s c.in_ok-evaluate.ensures
