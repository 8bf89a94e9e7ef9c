use Rattle.std.proofs.Common.{◌≡◌, drop, map}
use Rattle.scons_calls.specs.Results.{along, and_one, each}
use Rattle.scons_calls.specs.Kinds.{word_by}
use Rattle.scons_calls.proofs.texts.checked.Given as goal

abbrev pub invariant-loop-word : goal.invariant-loop-word
invariant-loop-word l = along (λ xs a. and_one xs (word_by a)) l.names (drop l.word-index (map (λ w. w.now) l.words)) ≡ each word_by (map (λ w. w.now) l.words)
