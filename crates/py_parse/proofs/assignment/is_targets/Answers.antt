use Rattle.std.proofs.Common.{◌∙◌}
use Rattle.py_tree.specs.Tree.{expr_tree, trees}
use Rattle.std.proofs.Common.{map}
use Rattle.py_tree.proofs.Views.{expr_tree-Tuple}
use Rattle.py_parse.proofs.Targets.{one_target, no_targets}
use Rattle.py_parse.proofs.assignment.is_targets.Goals as goal

pub returns-then-not-trailing_comma : goal.returns-then-not-trailing_comma
returns-then-not-trailing_comma c =
    let e = c.are_several_names.ensures c.in-Tuple.line in
    rw (c.in-Tuple.is, expr_tree-Tuple c.in-Tuple.line c.in-Tuple.items c.in-Tuple.trailing_comma, c.if-not-trailing_comma.true) (rw c.deref.ensures.value at e)

pub returns-else-not-trailing_comma : goal.returns-else-not-trailing_comma
returns-else-not-trailing_comma c =
    rw (c.in-Tuple.is, expr_tree-Tuple c.in-Tuple.line c.in-Tuple.items c.in-Tuple.trailing_comma, c.if-not-trailing_comma.false) (no_targets c.in-Tuple.line (trees (map expr_tree c.in-Tuple.items.items)))

pub returns-in_default : goal.returns-in_default
returns-in_default c = c.is_place.ensures ∙ one_target c.args.expr.now c.in_default.not-Tuple
