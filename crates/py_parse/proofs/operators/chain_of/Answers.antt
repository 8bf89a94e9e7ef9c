use Rattle.std.proofs.Common.{sym, ◌∙◌}
use Rattle.py_tree.specs.Tree.{expr_tree, operation_tree}
use Rattle.py_tree.proofs.Views.{expr_tree-Chain}
use Rattle.py_parse.proofs.Cases.{not_empty, chain_some}
use Rattle.py_parse.proofs.Puts.{box_made}
use Rattle.py_parse.proofs.operators.chain_of.Goals as goal

pub returns : goal.returns
returns c = box_made _ _ _ c.new.ensures.ok (expr_tree-Chain _ _ ∙ sym (chain_some operation_tree (expr_tree c.args.first.value) c.args.rest.items (not_empty _ _ c.args.rest.ok.0 c.if-is_empty.ensures)))
