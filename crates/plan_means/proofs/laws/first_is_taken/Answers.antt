use Rattle.plan_means.proofs.Taking.{taken_first}
use Rattle.plan_means.proofs.laws.first_is_taken.Goals as goal

pub returns : goal.returns
returns c = λ b g requested build past plan rule r tied is none first. taken_first b g requested build past plan tied none rule r is first
