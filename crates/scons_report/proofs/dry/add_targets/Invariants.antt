use Rattle.std.proofs.Common.{◌≡◌, ◌||◌, ℕ, List, take}
use Rattle.scons_report.specs.Overs.{among_paths}
use Rattle.scons_report.proofs.dry.add_targets.Given as goal

abbrev pub invariant-loop-target : goal.invariant-loop-target
invariant-loop-target l =
    (path : List ℕ) → among_paths l.paths.keys path ≡ (among_paths l.fn.paths.keys path || among_paths (take l.target-index l.rec.targets) path)
