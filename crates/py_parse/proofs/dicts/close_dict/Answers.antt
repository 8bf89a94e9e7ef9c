use Rattle.py_tree.proofs.Views.{expr_tree-Dict}
use Rattle.py_parse.proofs.Cases.{takes_at, given_at}
use Rattle.py_parse.specs.Reading.{r_refused}
use Rattle.py_parse.proofs.dicts.close_dict.Goals as goal

pub returns-in_default-clause-goes : goal.returns-in_default-clause-goes
returns-in_default-clause-goes c = λ d. r_refused c.in_default.ensures

pub returns-clause-goes : goal.returns-clause-goes
returns-clause-goes c = λ d. takes_at _ c.in-Some.ensures (given_at (expr_tree-Dict _ _))
