use Rattle.std.proofs.Common.{arith}
use Rattle.std.proofs.lemmas.Str.{IsCharBoundary-before_ascii}
use Rattle.scons_base.proofs.path.PathText.suffix.Goals as goal

pub range_from-requires : goal.range_from-requires
range_from-requires c =
    let n = c.behind_last-behind.ensures in
    λ _. IsCharBoundary-before_ascii _ _ (omega (arith, n.bound)) (omega (arith, n.found))
