use Rattle.py_tree.proofs.Views.{expr_tree-Name, expr_tree-Integer, expr_tree-Constant}
use Rattle.std.proofs.Common.{refl, ap, ◌∙◌, unwrap_or}
use Rattle.py_tree.specs.declared.expr.Constant.TheVariants as constant'
use Rattle.py_parse.proofs.Puts.{leaf_rest}
use Rattle.py_parse.proofs.atoms.leaf_of.Goals as goal

pub returns-in_ok-name-in-Name : goal.returns-in_ok-name-in-Name
returns-in_ok-name-in-Name c = rw (expr_tree-Name, c.in_ok-name-in-Name.ensures, c.in-Name.is) refl

pub returns-in-Integer : goal.returns-in-Integer
returns-in-Integer c = rw (expr_tree-Integer, c.in-Integer.is) refl

pub returns-in_default : goal.returns-in_default
returns-in_default c = leaf_rest _ _ _ _ c.in_default.not-Name c.in_default.not-Integer (expr_tree-Constant _ _) (c.unwrap_or-constant.ensures ∙ ap (λ o. unwrap_or o constant'.None) c.constant_of.ensures)
