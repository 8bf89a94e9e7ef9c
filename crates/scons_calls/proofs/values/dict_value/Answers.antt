use Rattle.scons_calls.proofs.Standing.{dict_stands}
use Rattle.scons_calls.proofs.values.dict_value.Goals as goal

pub returns-clause-stands : goal.returns-clause-stands
returns-clause-stands c = dict_stands _ _ c.args.pairs.now _ c.dict.ensures.ok c.dict.ensures.err
