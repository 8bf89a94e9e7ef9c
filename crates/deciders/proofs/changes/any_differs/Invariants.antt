use Rattle.std.proofs.Common.{length}
use Rattle.std.specs.Prelude.{◌↔◌, Any}
use Rattle.std.specs.List.{zip}
use Rattle.deciders.specs.Changes.{DiffersInBoth}
use Rattle.deciders.proofs.changes.any_differs.Given as goal

abbrev pub invariant-loop-x : goal.invariant-loop-x
invariant-loop-x l = Any DiffersInBoth (zip l.xs l.ys) ↔ Any DiffersInBoth (zip l.old l.now)

abbrev pub decreases-loop-x : goal.decreases-loop-x
decreases-loop-x l = length l.xs
