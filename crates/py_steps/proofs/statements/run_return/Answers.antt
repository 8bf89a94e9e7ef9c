use Rattle.std.proofs.Common.{ap}
use Rattle.py_tree.specs.Tree.{optional_tree}
use Rattle.py_steps.proofs.Simples.{return_nil, return_goes}
use Rattle.py_steps.proofs.statements.run_return.Goals as goal

pub returns-in_default : goal.returns-in_default
returns-in_default c = λ l s. return_nil l (optional_tree c.args.value.now) c.args.desk.now s (ap optional_tree c.in_default.is)

pub returns : goal.returns
returns c = λ l s. return_goes l (optional_tree c.args.value.now) _ c.args.desk.now c.evaluate.new.self s (ap optional_tree c.in-Some.is) c.in_ok-evaluate.ensures
