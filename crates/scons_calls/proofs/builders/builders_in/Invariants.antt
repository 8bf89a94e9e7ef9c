use Rattle.std.proofs.Common.{◌≡◌, drop}
use Rattle.scons_calls.specs.Results.{along, and_one, each}
use Rattle.scons_calls.specs.Variables.{builder_pair}
use Rattle.scons_calls.specs.Kinds.{pairs_in}
use Rattle.scons_calls.proofs.builders.builders_in.Given as goal

abbrev pub invariant-pairs : goal.invariant-pairs
invariant-pairs l = along (λ xs a. and_one xs (builder_pair l.heap l.objects a)) l.builders (drop l.at (pairs_in l.heap l.dict.0)) ≡ each (builder_pair l.heap l.objects) (pairs_in l.heap l.dict.0)
