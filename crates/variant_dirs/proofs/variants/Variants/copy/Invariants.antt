use Rattle.std.proofs.Common.{◌≡◌, take}
use Rattle.variant_dirs.proofs.variants.Variants.copy.Given as goal

abbrev pub invariant-loop-variant : goal.invariant-loop-variant
invariant-loop-variant l = l.variants.items ≡ take l.variant-index l.variant-items
