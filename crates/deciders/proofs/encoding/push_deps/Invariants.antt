use Rattle.std.proofs.Common.{◌≡◌, ◌++◌, length, take}
use Rattle.std.specs.Int.{w32, to_be_bytes}
use Rattle.std.specs.List.{flat_map, AllByRecursion}
use Rattle.deciders.specs.Spelling.{dep_spelling, IsDep}
use Rattle.deciders.proofs.encoding.push_deps.Given as goal

abbrev pub invariant-loop-dep : goal.invariant-loop-dep
invariant-loop-dep l =
    (l.out.items ≡ l.fn.out.items ++ (to_be_bytes w32 (length l.deps) ++ flat_map dep_spelling (take l.dep-index l.deps)))
    × AllByRecursion IsDep (take l.dep-index l.deps)
