use Rattle.plan_means.proofs.Resting.{is_at_rest}
use Rattle.plan_means.proofs.laws.still_is_at_rest.Goals as goal

pub returns : goal.returns
returns c = λ b g requested build past plan tied still count. is_at_rest b g requested build past plan tied still count
