use Rattle.plan_means.proofs.Taking.{taken_in_order}
use Rattle.plan_means.proofs.laws.in_order_is_taken.Goals as goal

pub returns : goal.returns
returns c = λ b g requested build past plan rule r tied is none first room no_loop.
    taken_in_order b g requested build past plan tied none rule r is first room no_loop
