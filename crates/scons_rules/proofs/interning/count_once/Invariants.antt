use Rattle.std.proofs.Common.{◌≡◌, map, take}
use Rattle.scons_rules.specs.Numbers.{each_once}
use Rattle.scons_rules.proofs.interning.count_once.Given as goal

abbrev pub invariant-loop-one : goal.invariant-loop-one
invariant-loop-one l = map (λ p. p.now) l.seen.keys ≡ each_once (map (λ n. n.path) (take l.one-index l.named))
