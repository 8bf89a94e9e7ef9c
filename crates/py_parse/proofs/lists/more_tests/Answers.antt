use Rattle.std.proofs.Common.{refl}
use Rattle.py_tree.proofs.Views.{expr_tree-Comprehension}
use Rattle.py_parse.proofs.Cases.{takes_at, given_at}
use Rattle.py_parse.proofs.Steps.{tests_go, tests_stop, onto_all}
use Rattle.py_parse.specs.Reading.{r_refused}
use Rattle.py_parse.proofs.lists.more_tests.Goals as goal

pub returns-in-Some-clause-goes : goal.returns-in-Some-clause-goes
returns-in-Some-clause-goes c = λ d o r. tests_go _ c.in-Some.ensures r

pub returns-in_default-strip-clause-goes : goal.returns-in_default-strip-clause-goes
returns-in_default-strip-clause-goes c = λ d. tests_stop _ c.in_default.ensures (r_refused c.in_default-strip.ensures)

pub returns-clause-goes : goal.returns-clause-goes
returns-clause-goes c = λ d. tests_stop _ c.in_default.ensures (takes_at _ c.in-Some-strip.ensures (given_at (rw (expr_tree-Comprehension, onto_all) refl)))
