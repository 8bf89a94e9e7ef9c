use Rattle.scons_calls.proofs.Standing.{list_stands}
use Rattle.scons_calls.proofs.values.list_value.Goals as goal

pub returns-clause-stands : goal.returns-clause-stands
returns-clause-stands c = list_stands _ _ _ _ c.list.ensures.ok c.list.ensures.err
