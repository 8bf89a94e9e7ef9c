use Rattle.std.proofs.Common.{◌≡◌, drop}
use Rattle.scons_calls.specs.Results.{along, and_one, each}
use Rattle.scons_calls.specs.Kinds.{place_by}
use Rattle.scons_calls.proofs.nodes.places.Given as goal

abbrev pub invariant-loop-item : goal.invariant-loop-item
invariant-loop-item l = along (λ xs a. and_one xs (place_by l.heap l.objects a)) l.nodes (drop l.item-index l.items) ≡ each (place_by l.heap l.objects) l.items
