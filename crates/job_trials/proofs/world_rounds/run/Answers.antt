use Rattle.std.proofs.Common.{List, ap, length}
use Rattle.world_api.specs.Around.{Running}
use Rattle.job_trials.proofs.Below.{below_none}
use Rattle.job_trials.proofs.world_rounds.run.Goals as goal

pub invariant_of-rounds-clause-counted : goal.invariant_of-rounds-clause-counted
invariant_of-rounds-clause-counted g c = ap (λ (runs : List Running). length runs) c.in-Ok.ensures.fresh.running

pub invariant_of-rounds-clause-below : goal.invariant_of-rounds-clause-below
invariant_of-rounds-clause-below g c = below_none _ _ c.in-Ok.ensures.fresh.running
