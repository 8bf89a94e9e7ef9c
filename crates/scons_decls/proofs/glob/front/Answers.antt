use Rattle.std.proofs.Common.{arith}
use Rattle.std.proofs.lemmas.Str.{IsCharBoundary-before_ascii}
use Rattle.scons_decls.proofs.glob.front.Goals as goal

pub range-requires-clause-end_boundary : goal.range-requires-clause-end_boundary
range-requires-clause-end_boundary c =
    let n = c.behind_slash.ensures in
    IsCharBoundary-before_ascii _ _ (omega (arith, n.bound)) (omega (arith, n.found))
