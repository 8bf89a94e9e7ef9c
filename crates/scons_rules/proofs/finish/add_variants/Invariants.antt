use Rattle.std.proofs.Common.{◌≡◌, drop}
use Rattle.scons_rules.specs.Finishing.{with_variants}
use Rattle.scons_rules.specs.PathGraphs.{graph_by}
use Rattle.scons_rules.proofs.finish.add_variants.Given as goal

abbrev pub invariant-loop-variant : goal.invariant-loop-variant
invariant-loop-variant l = with_variants (drop l.variant-index l.variants) (graph_by l.graph) ≡ with_variants l.variants (graph_by l.initial.graph)
