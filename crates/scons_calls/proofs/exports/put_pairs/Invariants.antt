use Rattle.std.proofs.Common.{◌≡◌, drop}
use Rattle.scons_calls.specs.Results.{along}
use Rattle.scons_calls.specs.Kinds.{exported_pair, pairs_in}
use Rattle.scons_calls.proofs.exports.put_pairs.Given as goal

abbrev pub invariant-pairs : goal.invariant-pairs
invariant-pairs l = along (exported_pair l.heap) l.scope (drop l.place (pairs_in l.heap l.dict.0)) ≡ along (exported_pair l.heap) l.fn.scope (pairs_in l.heap l.dict.0)
