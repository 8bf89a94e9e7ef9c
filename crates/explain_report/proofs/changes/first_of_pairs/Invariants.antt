use Rattle.std.proofs.Common.{◌≡◌, ◌+◌, ℕ, length}
use Rattle.std.specs.List.{zip}
use Rattle.explain_report.specs.Reasons.{Somewhere, FirstFrom, First, Differs}
use Rattle.explain_report.proofs.changes.first_of_pairs.Given as goal

abbrev pub invariant-loop-x : goal.invariant-loop-x
invariant-loop-x l = record {
  whole : l.place + length l.xs ≡ length l.old;
  first : (p : ℕ) → FirstFrom l.place (Differs l.decider l.stamp) (zip l.xs l.ys) p → First (Differs l.decider l.stamp) (zip l.old l.now) p;
  later : Somewhere (Differs l.decider l.stamp) (zip l.old l.now) → Somewhere (Differs l.decider l.stamp) (zip l.xs l.ys);
}

abbrev pub decreases-loop-x : goal.decreases-loop-x
decreases-loop-x l = length l.xs
