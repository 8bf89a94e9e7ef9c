use Rattle.std.proofs.Common.{◌≡◌, ◌++◌, length, take}
use Rattle.std.specs.Int.{w32, to_be_bytes}
use Rattle.std.specs.List.{flat_map, AllByRecursion}
use Rattle.deciders.specs.Spelling.{sized, IsPathText}
use Rattle.deciders.proofs.encoding.push_paths.Given as goal

abbrev pub invariant-loop-path : goal.invariant-loop-path
invariant-loop-path l =
    (l.out.items ≡ l.fn.out.items ++ (to_be_bytes w32 (length l.paths) ++ flat_map sized (take l.path-index l.paths)))
    × AllByRecursion IsPathText (take l.path-index l.paths)
