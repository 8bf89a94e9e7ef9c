use Rattle.build_run.specs.Skips.{AreNamedTo}
use Rattle.build_run.proofs.building.skipped.Given as goal

abbrev pub invariant-loop-pair : goal.invariant-loop-pair
invariant-loop-pair l = AreNamedTo l.graph l.pair-items l.pair-index l.pairs.items
