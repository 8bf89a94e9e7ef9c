use Rattle.std.proofs.Common.{◌≡◌, drop}
use Rattle.scons_calls.specs.Results.{along, and_one, each}
use Rattle.scons_calls.specs.Kinds.{text_by}
use Rattle.scons_calls.proofs.texts.texts_of.Given as goal

abbrev pub invariant-loop-item : goal.invariant-loop-item
invariant-loop-item l = along (λ xs a. and_one xs (text_by l.heap a)) l.texts (drop l.item-index l.items) ≡ each (text_by l.heap) l.items
