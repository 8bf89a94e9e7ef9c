use Rattle.std.proofs.Common.{refl}
use Rattle.py_tree.proofs.Views.{expr_tree-Constant}
use Rattle.py_parse.proofs.Comparing.{constant_at, constant_unfit, constant_there}
use Rattle.py_parse.proofs.operators.take_constant.Goals as goal

pub returns-in_default : goal.returns-in_default
returns-in_default c = λ d. constant_unfit d _ c.in_default.ensures

pub returns-in_default-constant_of : goal.returns-in_default-constant_of
returns-in_default-constant_of c = absurd (constant_there _ _ _ c.in-Some.ensures c.in_default-constant_of.ensures)

pub returns : goal.returns
returns c = λ d. constant_at d _ _ _ _ _ c.in-Some.ensures c.in-Some-constant_of.ensures (rw (c.in_ok-expr.ensures.ok, expr_tree-Constant) refl)
