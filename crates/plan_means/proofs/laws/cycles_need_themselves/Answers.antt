use Rattle.plan_means.proofs.Holding.{needs_itself}
use Rattle.plan_means.proofs.laws.cycles_need_themselves.Goals as goal

pub returns : goal.returns
returns c = λ b g requested build past plan cycle number tied is m. needs_itself b g requested build past plan tied cycle is number m
