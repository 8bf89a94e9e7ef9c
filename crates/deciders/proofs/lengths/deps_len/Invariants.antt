use Rattle.std.proofs.Common.{◌≡◌, ◌+◌, ◌-◌, ◌^◌, min, length, take}
use Rattle.std.specs.List.{flat_map}
use Rattle.deciders.specs.Spelling.{dep_spelling}
use Rattle.deciders.proofs.lengths.deps_len.Given as goal

abbrev pub invariant-loop-dep : goal.invariant-loop-dep
invariant-loop-dep l = l.len ≡ min (4 + length (flat_map dep_spelling (take l.dep-index l.deps))) (2 ^ 64 - 1)
