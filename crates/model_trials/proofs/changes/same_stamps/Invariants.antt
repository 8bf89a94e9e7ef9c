use Rattle.std.proofs.Common.{◌≡◌, length}
use Rattle.std.specs.Prelude.{◌↔◌}
use Rattle.model_trials.specs.Staling.{stamps_in}
use Rattle.model_trials.proofs.changes.same_stamps.Given as goal

abbrev pub invariant-loop-xs : goal.invariant-loop-xs
invariant-loop-xs l = (stamps_in l.xs ≡ stamps_in l.ys) ↔ (stamps_in l.a ≡ stamps_in l.b)

abbrev pub decreases-loop-xs : goal.decreases-loop-xs
decreases-loop-xs l = length l.xs
