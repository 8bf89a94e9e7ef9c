use Rattle.std.proofs.Common.{◌≡◌, ◌+◌, ◌-◌, ◌^◌, min, length, take}
use Rattle.std.specs.List.{flat_map}
use Rattle.deciders.specs.Spelling.{sized}
use Rattle.deciders.proofs.lengths.texts_len.Given as goal

abbrev pub invariant-loop-text : goal.invariant-loop-text
invariant-loop-text l = l.len ≡ min (4 + length (flat_map sized (take l.text-index l.texts))) (2 ^ 64 - 1)
