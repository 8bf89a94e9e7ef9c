use Rattle.std.proofs.Common.{◌≡◌, length}
use Rattle.std.specs.Prelude.{◌↔◌}
use Rattle.model_trials.specs.Staling.{names_of}
use Rattle.model_trials.proofs.changes.same_names.Given as goal

abbrev pub invariant-loop-xs : goal.invariant-loop-xs
invariant-loop-xs l = (names_of l.xs ≡ names_of l.ys) ↔ (names_of l.a ≡ names_of l.b)

abbrev pub decreases-loop-xs : goal.decreases-loop-xs
decreases-loop-xs l = length l.xs
