use Rattle.std.proofs.Common.{◌≡◌, drop}
use Rattle.scons_calls.specs.Results.{along, and_one}
use Rattle.scons_calls.specs.Variables.{pair_by, dict_by}
use Rattle.scons_calls.specs.Kinds.{pairs_in}
use Rattle.scons_calls.proofs.variables.pairs.Given as goal

abbrev pub invariant-pairs : goal.invariant-pairs
invariant-pairs l = along (λ xs a. and_one xs (pair_by l.heap l.objects a)) l.pairs (drop l.at (pairs_in l.heap l.dict.0)) ≡ dict_by l.heap l.objects l.dict.0
