use Rattle.std.proofs.Common.{◌∙◌, ◌+◌, ℕ, List, ap, length}
use Rattle.world_api.specs.Around.{Running}
use Rattle.job_trials.proofs.Below.{all_open, below_more, below_same, can_start, more}
use Rattle.job_trials.proofs.world_rounds.Rounds.start.Goals as goal

pub start-requires-clause-free : goal.start-requires-clause-free
start-requires-clause-free g c = λ told.
    can_start _ _ c.args.self.now.next c.job_of-job.ensures.id c.job_of-job.ensures.targets c.job_of-job.ensures.deps c.args.self.now.below

pub start-requires-clause-reachable : goal.start-requires-clause-reachable
start-requires-clause-reachable g c = all_open _

pub invariant_of-self-clause-counted : goal.invariant_of-self-clause-counted
invariant_of-self-clause-counted g c = more _ _ _ _ (c.in-Ok.ensures.started tt) ∙ ap (λ (n : ℕ). n + 1) c.args.self.now.counted

pub invariant_of-self-clause-below : goal.invariant_of-self-clause-below
invariant_of-self-clause-below g c = below_more _ _ _ _ (c.in-Ok.ensures.started tt).running c.job_of-job.ensures.id c.args.self.now.below

pub invariant_of-self-in-Err-clause-counted : goal.invariant_of-self-in-Err-clause-counted
invariant_of-self-in-Err-clause-counted g c = ap (λ (runs : List Running). length runs) (c.in-Err.ensures.refused tt).running ∙ c.args.self.now.counted

pub invariant_of-self-in-Err-clause-below : goal.invariant_of-self-in-Err-clause-below
invariant_of-self-in-Err-clause-below g c = below_same _ _ _ (c.in-Err.ensures.refused tt).running c.args.self.now.below
