use Rattle.py_lex.proofs.Signs.{found_stands}
use Rattle.py_lex.proofs.sign.mark_at.Goals as goal

pub returns-clause-stands : goal.returns-clause-stands
returns-clause-stands c = found_stands _ _ c.first_mark.ensures
