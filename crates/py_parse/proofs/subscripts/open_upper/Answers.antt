use Rattle.std.proofs.Common.{sym}
use Rattle.py_parse.proofs.Steps.{link_continues_over, upper_open, upper_none}
use Rattle.py_parse.proofs.subscripts.open_upper.Goals as goal

pub returns-then-sees-clause-goes : goal.returns-then-sees-clause-goes
returns-then-sees-clause-goes c = λ d o r. upper_open _ (sym c.if-sees.ensures) r

pub returns-clause-goes : goal.returns-clause-goes
returns-clause-goes c = link_continues_over _ _ _ _ _ (λ d o r. upper_none _ (sym c.if-sees.ensures) r) c.close_slice.ensures.goes
