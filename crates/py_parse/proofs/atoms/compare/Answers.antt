use Rattle.py_tree.proofs.Views.{expr_tree-Compare}
use Rattle.py_parse.proofs.Puts.{box_made}
use Rattle.py_parse.proofs.atoms.compare.Goals as goal

pub returns : goal.returns
returns c = box_made _ _ _ c.new.ensures.ok (expr_tree-Compare _ _ _ _)
