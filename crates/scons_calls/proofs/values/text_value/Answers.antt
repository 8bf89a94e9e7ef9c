use Rattle.scons_calls.proofs.Standing.{text_stands}
use Rattle.scons_calls.proofs.values.text_value.Goals as goal

pub returns-clause-stands : goal.returns-clause-stands
returns-clause-stands c = text_stands _ _ _ _ c.text.ensures.ok c.text.ensures.err
