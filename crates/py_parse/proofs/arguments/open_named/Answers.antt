use Rattle.py_parse.proofs.Puts.{named_first, seen_one}
use Rattle.py_parse.proofs.arguments.open_named.Goals as goal

pub returns-clause-goes : goal.returns-clause-goes
returns-clause-goes c = λ d o r. named_first _ _ _ _ _ (seen_one _ _ _ _ c.new-seen.ensures c.in_ok-insert.ensures c.in_ok-copy.ensures) c.in-Some.ensures r
