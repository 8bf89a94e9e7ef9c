use Rattle.std.proofs.Common.{refl}
use Rattle.py_tree.proofs.Views.{expr_tree-Group, expr_tree-Tuple}
use Rattle.py_parse.specs.Grammar.{grouped}
use Rattle.py_parse.proofs.Cases.{by_production, no_takes, last_production}
use Rattle.py_parse.proofs.Steps.{exprs_open}
use Rattle.py_parse.proofs.Paths.{empty_group_ok}
use Rattle.py_parse.proofs.tuples.open_group.Goals as goal

pub returns-in_default : goal.returns-in_default
returns-in_default c = λ d o r. by_production (grouped _) (no_takes _ _ _ _ c.in_default.ensures (last_production _ (exprs_open _ r)))

pub returns : goal.returns
returns c = λ d. empty_group_ok d _ c.in-Some.ensures (rw (expr_tree-Group, c.in_ok-inner.ensures.ok, expr_tree-Tuple, c.new.ensures.items) refl)
