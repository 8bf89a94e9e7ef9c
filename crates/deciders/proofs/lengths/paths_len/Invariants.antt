use Rattle.std.proofs.Common.{◌≡◌, ◌+◌, ◌-◌, ◌^◌, min, length, take}
use Rattle.std.specs.List.{flat_map}
use Rattle.deciders.specs.Spelling.{sized}
use Rattle.deciders.proofs.lengths.paths_len.Given as goal

abbrev pub invariant-loop-path : goal.invariant-loop-path
invariant-loop-path l = l.len ≡ min (4 + length (flat_map sized (take l.path-index l.paths))) (2 ^ 64 - 1)
