use Rattle.std.proofs.Common.{◌≡◌, drop}
use Rattle.scons_calls.specs.Results.{along}
use Rattle.scons_calls.proofs.Flats.{step, inside}
use Rattle.scons_calls.proofs.flattening.+flatten.Given as goal

abbrev pub decreases-flatten : goal.decreases-flatten
decreases-flatten l = l.levels

abbrev pub invariant-loop-value : goal.invariant-loop-value
invariant-loop-value l = along (step l.heap (inside l.heap l.levels)) l.flat (drop l.value-index l.values) ≡ along (step l.heap (inside l.heap l.levels)) l.fn.flat l.values
