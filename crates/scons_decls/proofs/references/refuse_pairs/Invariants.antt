use Rattle.std.proofs.Common.{◌≡◌, drop}
use Rattle.scons_decls.specs.Steps.{all_of}
use Rattle.scons_decls.specs.References.{pair_allowed}
use Rattle.scons_decls.proofs.references.refuse_pairs.Given as goal

abbrev pub invariant-loop-item : goal.invariant-loop-item
invariant-loop-item l = all_of pair_allowed (drop l.item-index l.pairs) ≡ all_of pair_allowed l.pairs
