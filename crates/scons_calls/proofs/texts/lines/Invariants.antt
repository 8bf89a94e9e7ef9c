use Rattle.std.proofs.Common.{◌≡◌, drop}
use Rattle.scons_calls.specs.Results.{along, and_one, each}
use Rattle.scons_calls.specs.Kinds.{line_by}
use Rattle.scons_calls.proofs.texts.lines.Given as goal

abbrev pub invariant-loop-item : goal.invariant-loop-item
invariant-loop-item l = along (λ xs a. and_one xs (line_by l.heap a)) l.lines (drop l.item-index l.items) ≡ each (line_by l.heap) l.items
