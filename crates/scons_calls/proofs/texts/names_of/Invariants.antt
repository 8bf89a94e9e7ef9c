use Rattle.std.proofs.Common.{◌≡◌, drop}
use Rattle.scons_calls.specs.Results.{along, and_more, each_joined}
use Rattle.scons_calls.specs.Kinds.{words_by}
use Rattle.scons_calls.proofs.texts.names_of.Given as goal

abbrev pub invariant-loop-item : goal.invariant-loop-item
invariant-loop-item l = along (λ xs a. and_more xs (words_by l.heap a)) l.names (drop l.item-index l.items) ≡ each_joined (words_by l.heap) l.items
