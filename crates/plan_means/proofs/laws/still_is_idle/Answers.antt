use Rattle.plan_means.proofs.Resting.{is_idle}
use Rattle.plan_means.proofs.laws.still_is_idle.Goals as goal

pub returns : goal.returns
returns c = λ b g requested build past plan tied still. is_idle b g requested build past plan tied still
