use Rattle.std.proofs.Common.{◌≡◌, length}
use Rattle.std.specs.Prelude.{◌↔◌}
use Rattle.model_trials.specs.Staling.{digests_of}
use Rattle.model_trials.proofs.changes.same_digests.Given as goal

abbrev pub invariant-loop-xs : goal.invariant-loop-xs
invariant-loop-xs l = (digests_of l.xs ≡ digests_of l.ys) ↔ (digests_of l.a ≡ digests_of l.b)

abbrev pub decreases-loop-xs : goal.decreases-loop-xs
decreases-loop-xs l = length l.xs
