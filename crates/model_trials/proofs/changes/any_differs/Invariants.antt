use Rattle.std.proofs.Common.{length}
use Rattle.std.specs.Prelude.{◌↔◌}
use Rattle.model_trials.proofs.Sameness.{Differ}
use Rattle.model_trials.proofs.changes.any_differs.Given as goal

abbrev pub invariant-loop-x : goal.invariant-loop-x
invariant-loop-x l = Differ l.xs l.ys ↔ Differ l.old l.now

abbrev pub decreases-loop-x : goal.decreases-loop-x
decreases-loop-x l = length l.xs
