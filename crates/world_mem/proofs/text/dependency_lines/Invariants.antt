use Rattle.std.proofs.Common.{◌≡◌, take}
use Rattle.std.specs.List.{flat_map}
use Rattle.world_mem.specs.Default.{dependency_line}
use Rattle.world_mem.proofs.text.dependency_lines.Given as goal

abbrev pub invariant-loop-path : goal.invariant-loop-path
invariant-loop-path l = l.text.items ≡ flat_map dependency_line (take l.path-index l.path-items)
