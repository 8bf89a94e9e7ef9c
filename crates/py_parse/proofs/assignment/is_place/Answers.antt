use Rattle.std.proofs.Common.{refl}
use Rattle.py_tree.proofs.Views.{expr_tree-Name, expr_tree-Post}
use Rattle.py_parse.proofs.Targets.{no_place}
use Rattle.py_parse.proofs.assignment.is_place.Goals as goal

pub returns-in-Name : goal.returns-in-Name
returns-in-Name c = rw (c.in-Name.is, expr_tree-Name c.in-Name.line c.in-Name.name) refl

pub returns-in-Post : goal.returns-in-Post
returns-in-Post c = rw (c.in-Post.is, expr_tree-Post c.in-Post.atom c.in-Post.links, ← c.deref.ensures.value) c.ends_in_index.ensures

pub returns-in_default : goal.returns-in_default
returns-in_default c = no_place c.args.expr.now c.in_default.not-Name c.in_default.not-Post
