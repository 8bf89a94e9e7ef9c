use Rattle.py_steps.proofs.Beginnings.{no_line}
use Rattle.py_steps.proofs.expressions.named_line.Goals as goal

pub returns-in_default : goal.returns-in_default
returns-in_default c = no_line c.args.atom.now c.in_default.not-Name
