use Rattle.py_steps.proofs.Definitions.{takes_default}
use Rattle.py_steps.proofs.statements.default_of.Goals as goal

pub returns-in-Some : goal.returns-in-Some
returns-in-Some c = λ ps. takes_default c.args.parameter.now ps c.args.values.now c.in-Some.first.now c.in-Some.rest.now c.if-is_none.ensures c.in-Some.ensures.cases.0
