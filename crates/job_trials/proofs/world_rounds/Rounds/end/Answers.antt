use Rattle.std.proofs.Common.{List, ap, arith, length}
use Rattle.world_api.specs.Around.{Running}
use Rattle.job_trials.proofs.Below.{below_less, fewer}
use Rattle.job_trials.proofs.world_rounds.Rounds.end.Goals as goal

pub wait-ended-requires : goal.wait-ended-requires
wait-ended-requires g c = λ told none. omega (arith, ap (λ (runs : List Running). length runs) none, c.args.self.now.counted)

pub invariant_of-self-clause-counted : goal.invariant_of-self-clause-counted
invariant_of-self-clause-counted g c = omega (arith, fewer _ _ _ _ (c.wait-ended.ensures.around tt), c.args.self.now.counted)

pub invariant_of-self-clause-below : goal.invariant_of-self-clause-below
invariant_of-self-clause-below g c = below_less _ _ _ _ _ (c.wait-ended.ensures.around tt) c.args.self.now.below
