use Rattle.scons_calls.proofs.Standing.{tuple_stands}
use Rattle.scons_calls.proofs.values.tuple_value.Goals as goal

pub returns-clause-stands : goal.returns-clause-stands
returns-clause-stands c = tuple_stands _ _ _ _ c.tuple.ensures.ok c.tuple.ensures.err
