use Rattle.scons_calls.proofs.Standing.{object_stands}
use Rattle.scons_calls.proofs.values.object_value.Goals as goal

pub returns-clause-stands : goal.returns-clause-stands
returns-clause-stands c = object_stands _ _ _ _ _ c.object.ensures.ok c.object.ensures.err
