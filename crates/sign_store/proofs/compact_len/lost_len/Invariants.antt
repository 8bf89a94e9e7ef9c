use Rattle.std.proofs.Common.{◌≡◌, ◌-◌, ◌^◌, min, length, take}
use Rattle.std.specs.List.{flat_map}
use Rattle.deciders.specs.Spelling.{sized}
use Rattle.sign_store.specs.Compacts.{lost_among}
use Rattle.sign_store.proofs.compact_len.lost_len.Given as goal

abbrev pub invariant-loop-path : goal.invariant-loop-path
invariant-loop-path l = l.len ≡ min (length (flat_map sized (lost_among l.map l.number (take l.path-index l.paths)))) (2 ^ 64 - 1)
