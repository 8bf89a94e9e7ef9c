use Rattle.std.proofs.Common.{◌≡◌, take}
use Rattle.std.specs.List.{flat_map}
use Rattle.world_mem.specs.Default.{line}
use Rattle.world_mem.proofs.text.signed_lines.Given as goal

abbrev pub invariant-loop-part : goal.invariant-loop-part
invariant-loop-part l = l.text.items ≡ flat_map line (take l.part-index l.part-items)
