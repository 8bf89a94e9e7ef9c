use Rattle.std.proofs.Common.{◌≡◌, ◌+◌, ◌≤◌, ℕ, length}
use Rattle.explain_report.specs.Reasons.{Somewhere, FirstFrom, First, IsNew}
use Rattle.explain_report.proofs.names.first_beside.Given as goal

abbrev pub invariant-loop-dep : goal.invariant-loop-dep
invariant-loop-dep l = record {
  whole : l.place + length l.rest ≡ length l.deps;
  expected : l.expected ≤ length l.others;
  first : (p : ℕ) → FirstFrom l.place (IsNew l.others) l.rest p → First (IsNew l.others) l.deps p;
  later : Somewhere (IsNew l.others) l.deps → Somewhere (IsNew l.others) l.rest;
}

abbrev pub decreases-loop-dep : goal.decreases-loop-dep
decreases-loop-dep l = length l.rest
