use Rattle.std.proofs.Common.{◌≡◌, ◌++◌, length, map, take}
use Rattle.std.specs.List.{flat_map}
use Rattle.text_files.specs.Refusals.{told}
use Rattle.world_api.specs.Writing.{bytes_of}
use Rattle.text_files.proofs.joining.rest_len.Given as goal

abbrev pub invariant-loop-content : goal.invariant-loop-content
invariant-loop-content l = l.len ≡ told (length (flat_map (λ next. l.between ++ next) (map bytes_of (take l.content-index l.rest))))
