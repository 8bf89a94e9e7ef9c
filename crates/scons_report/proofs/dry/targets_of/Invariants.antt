use Rattle.std.proofs.Common.{◌≡◌, ℕ, List, take}
use Rattle.std.specs.List.{list_any}
use Rattle.scons_report.specs.Overs.{among_paths}
use Rattle.scons_report.proofs.dry.targets_of.Given as goal

abbrev pub invariant-loop-rec : goal.invariant-loop-rec
invariant-loop-rec l = (path : List ℕ) → among_paths l.paths.keys path ≡ list_any (λ rec. among_paths rec.targets path) (take l.rec-index l.recs)
