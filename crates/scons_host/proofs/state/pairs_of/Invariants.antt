use Rattle.std.proofs.Common.{◌≡◌, drop}
use Rattle.scons_calls.specs.Results.{along}
use Rattle.scons_host.specs.Starting.{one_pair, pairs_of}
use Rattle.scons_host.proofs.state.pairs_of.Given as goal

abbrev pub invariant-loop-word : goal.invariant-loop-word
invariant-loop-word l = along one_pair (l.pairs.items, l.heap) (drop l.word-index l.words) ≡ pairs_of l.fn.heap l.words
