use Rattle.py_parse.specs.Grammar.{listed_rest}
use Rattle.py_parse.proofs.Cases.{by_production, yes_takes, reads_gives}
use Rattle.py_parse.proofs.Steps.{continues_over}
use Rattle.py_parse.proofs.Puts.{item_first}
use Rattle.py_parse.proofs.lists.put_first.Goals as goal

pub returns-in-Some-clause-goes : goal.returns-in-Some-clause-goes
returns-in-Some-clause-goes c = continues_over _ _ _ _ _ (λ d o r. reads_gives (by_production (listed_rest _ _) (yes_takes _ _ c.in-Some.ensures r))) c.open_comprehension.ensures.goes

pub returns-clause-goes : goal.returns-clause-goes
returns-clause-goes c = continues_over _ _ _ _ _ (λ d o r. item_first _ _ _ c.new.ensures.items c.in_default.ensures r) c.put_item.ensures.goes
