use Rattle.std.proofs.Common.{◌≡◌, drop}
use Rattle.scons_calls.specs.Results.{along, and_one, each}
use Rattle.scons_calls.specs.Kinds.{replaced_pair, pairs_in}
use Rattle.scons_calls.proofs.replacing.pairs_of.Given as goal

abbrev pub invariant-pairs : goal.invariant-pairs
invariant-pairs l = along (λ xs a. and_one xs (replaced_pair l.heap a)) l.pairs (drop l.at (pairs_in l.heap l.dict.0)) ≡ each (replaced_pair l.heap) (pairs_in l.heap l.dict.0)
