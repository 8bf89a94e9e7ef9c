use Rattle.std.proofs.Common.{sym, ◌∙◌}
use Rattle.py_tree.specs.Tree.{expr_tree, link_tree}
use Rattle.py_tree.proofs.Views.{expr_tree-Post}
use Rattle.py_parse.proofs.Cases.{not_empty, post_some}
use Rattle.py_parse.proofs.Puts.{box_made}
use Rattle.py_parse.proofs.operators.post_of.Goals as goal

pub returns : goal.returns
returns c = box_made _ _ _ c.new.ensures.ok (expr_tree-Post _ _ ∙ sym (post_some link_tree (expr_tree c.args.atom.value) c.args.links.items (not_empty _ _ c.args.links.ok.0 c.if-is_empty.ensures)))
