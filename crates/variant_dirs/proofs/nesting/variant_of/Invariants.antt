use Rattle.std.proofs.Common.{◌≡◌, drop}
use Rattle.variant_dirs.specs.Variants.{variant_of}
use Rattle.variant_dirs.proofs.nesting.variant_of.Given as goal

-- the path lies in none of the variant directories passed
abbrev pub invariant-loop-variant : goal.invariant-loop-variant
invariant-loop-variant l = variant_of (drop l.variant-index l.variants) l.path ≡ variant_of l.variants l.path
