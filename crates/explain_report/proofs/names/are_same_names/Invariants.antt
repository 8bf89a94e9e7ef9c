use Rattle.std.proofs.Common.{◌≡◌, length, map}
use Rattle.std.specs.Prelude.{◌↔◌}
use Rattle.deciders.specs.Records.{name_of}
use Rattle.explain_report.proofs.names.are_same_names.Given as goal

abbrev pub invariant-loop-xs : goal.invariant-loop-xs
invariant-loop-xs l = (map name_of l.xs ≡ map name_of l.ys) ↔ (map name_of l.a ≡ map name_of l.b)

abbrev pub decreases-loop-xs : goal.decreases-loop-xs
decreases-loop-xs l = length l.xs
