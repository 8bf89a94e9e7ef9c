use Rattle.std.proofs.Common.{◌≡◌, ◌++◌, drop}
use Rattle.scons_rules.specs.Expanding.{expanding}
use Rattle.scons_rules.specs.Writes.{pair_of, substituting}
use Rattle.scons_rules.proofs.Stepping.{gathered}
use Rattle.scons_rules.proofs.writing.substituting.Given as goal

abbrev pub invariant-loop-key : goal.invariant-loop-key
invariant-loop-key l = gathered (pair_of (expanding l.rule)) (λ t m. t ++ m) l.signed (drop l.key-index l.pairs) ≡ substituting (expanding l.rule) l.sources l.pairs
