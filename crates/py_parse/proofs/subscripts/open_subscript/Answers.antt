use Rattle.py_parse.specs.Grammar.{subscript}
use Rattle.py_parse.proofs.Cases.{by_production, yes_takes, no_takes, last_production}
use Rattle.py_parse.proofs.Steps.{link_continues_over}
use Rattle.py_parse.proofs.subscripts.open_subscript.Goals as goal

pub returns-in_default : goal.returns-in_default
returns-in_default c = λ d o r. by_production (subscript _) (no_takes _ _ _ _ c.in_default.ensures (last_production _ r))

pub returns : goal.returns
returns c = link_continues_over _ _ _ _ _ (λ d o r. by_production (subscript _) (yes_takes _ _ c.in-Some.ensures r)) c.open_upper.ensures.goes
