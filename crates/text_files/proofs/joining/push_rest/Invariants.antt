use Rattle.std.proofs.Common.{◌≡◌, ◌++◌, map, take}
use Rattle.std.specs.List.{flat_map}
use Rattle.world_api.specs.Writing.{bytes_of}
use Rattle.text_files.proofs.joining.push_rest.Given as goal

abbrev pub invariant-loop-content : goal.invariant-loop-content
invariant-loop-content l = l.joined.items ≡ l.initial.joined.items ++ flat_map (λ next. l.between ++ next) (map bytes_of (take l.content-index l.rest))
