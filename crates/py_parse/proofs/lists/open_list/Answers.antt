use Rattle.std.proofs.Common.{refl}
use Rattle.py_tree.proofs.Views.{expr_tree-List}
use Rattle.py_parse.specs.Grammar.{listed}
use Rattle.py_parse.proofs.Cases.{by_production, no_takes, last_production}
use Rattle.py_parse.proofs.Paths.{empty_list_ok}
use Rattle.py_parse.proofs.lists.open_list.Goals as goal

pub returns-in_default : goal.returns-in_default
returns-in_default c = λ d o r. by_production (listed _) (no_takes _ _ _ _ c.in_default.ensures (last_production _ r))

pub returns : goal.returns
returns c = λ d. empty_list_ok d _ c.in-Some.ensures (rw (expr_tree-List, c.new-items.ensures.items) refl)
