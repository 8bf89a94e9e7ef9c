use Rattle.std.proofs.Common.{◌≡◌, drop}
use Rattle.scons_calls.specs.Results.{along, and_one, each}
use Rattle.scons_calls.specs.Variables.{item_by}
use Rattle.scons_calls.proofs.variables.items.Given as goal

abbrev pub invariant-loop-value : goal.invariant-loop-value
invariant-loop-value l = along (λ xs a. and_one xs (item_by l.heap l.objects a)) l.items (drop l.value-index l.values) ≡ each (item_by l.heap l.objects) l.values
