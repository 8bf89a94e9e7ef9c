use Rattle.std.proofs.Common.{arith, ap}
use Rattle.py_tree.specs.Tree.{expr_tree}
use Rattle.py_parse.specs.Reading.{r_refused, r_read, r_part_fault}
use Rattle.py_parse.proofs.Cases.{taken_shorter}
use Rattle.py_parse.proofs.Loops.{read_shorter}
use Rattle.py_parse.proofs.Puts.{comprehension_opens, stops_here}
use Rattle.py_parse.proofs.lists.open_comprehension.Goals as goal

pub returns-in_default-clause-goes : goal.returns-in_default-clause-goes
returns-in_default-clause-goes c = λ d. r_read _ _ (c.in_ok-names.ensures d) (r_refused c.in_default.ensures)

pub returns-clause-goes : goal.returns-clause-goes
returns-clause-goes c = λ d o r. comprehension_opens _ _ _ (ap expr_tree c.in_ok-item.ensures.ok) (c.in_ok-names.ensures d) c.in-Some.ensures r

pub returns-clause-shrinks : goal.returns-clause-shrinks
returns-clause-shrinks c = let h = read_shorter (c.in_ok-names.ensures 0) in let i = taken_shorter c.in-Some.ensures in omega (arith, h, i)

pub returns-in_err-names-clause-goes : goal.returns-in_err-names-clause-goes
returns-in_err-names-clause-goes c = stops_here _ _ _ _ _ c.from_residual.ensures.1 (λ w rest h d. r_part_fault (h d)) c.in_err-names.ensures
