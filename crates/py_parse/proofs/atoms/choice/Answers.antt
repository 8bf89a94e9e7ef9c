use Rattle.py_tree.proofs.Views.{expr_tree-Choice}
use Rattle.py_parse.proofs.Puts.{box_made}
use Rattle.py_parse.proofs.atoms.choice.Goals as goal

pub returns : goal.returns
returns c = box_made _ _ _ c.new.ensures.ok (expr_tree-Choice _ _ _ _)
