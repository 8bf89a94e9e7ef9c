use Rattle.std.proofs.Common.{refl}
use Rattle.py_tree.proofs.Views.{expr_tree-Name}
use Rattle.py_parse.proofs.Targets.{no_name}
use Rattle.py_parse.proofs.assignment.is_name.Goals as goal

pub returns-in-Name : goal.returns-in-Name
returns-in-Name c = rw (c.in-Name.is, expr_tree-Name c.in-Name.line c.in-Name.name) refl

pub returns-in_default : goal.returns-in_default
returns-in_default c = no_name c.args.expr.now c.in_default.not-Name
