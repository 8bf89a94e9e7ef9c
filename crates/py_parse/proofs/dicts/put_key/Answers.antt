use Rattle.py_parse.proofs.Cases.{takes_at}
use Rattle.py_parse.specs.Reading.{r_refused}
use Rattle.py_parse.proofs.dicts.put_key.Goals as goal

pub returns-in_default-clause-goes : goal.returns-in_default-clause-goes
returns-in_default-clause-goes c = λ d. r_refused c.in_default.ensures

pub returns-clause-goes : goal.returns-clause-goes
returns-clause-goes c = λ d o r. takes_at _ c.in-Some.ensures r
