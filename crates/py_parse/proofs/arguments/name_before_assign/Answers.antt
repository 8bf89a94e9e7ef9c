use Rattle.std.proofs.Common.{refl, sym, ◌∙◌}
use Rattle.py_tree.proofs.Views.{expr_tree-Name}
use Rattle.py_parse.proofs.Targets.{no_name}
use Rattle.py_parse.proofs.Puts.{not_a_name}
use Rattle.py_parse.proofs.arguments.name_before_assign.Goals as goal

pub returns-in-Name : goal.returns-in-Name
returns-in-Name c = (rw (c.in-Name.is, expr_tree-Name c.in-Name.line c.in-Name.name) refl, sym c.sees.ensures ∙ c.if-not-sees.false)

pub returns-in_default : goal.returns-in_default
returns-in_default c = (refl, not_a_name _ (no_name c.args.value c.in_default.not-Name))
