use Rattle.std.proofs.Common.{◌≡◌, length, map}
use Rattle.std.specs.Prelude.{◌↔◌}
use Rattle.deciders.specs.Changes.{stamp_of}
use Rattle.deciders.proofs.changes.same_stamps.Given as goal

abbrev pub invariant-loop-xs : goal.invariant-loop-xs
invariant-loop-xs l = (map stamp_of l.xs ≡ map stamp_of l.ys) ↔ (map stamp_of l.a ≡ map stamp_of l.b)

abbrev pub decreases-loop-xs : goal.decreases-loop-xs
decreases-loop-xs l = length l.xs
