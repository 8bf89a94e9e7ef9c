use Rattle.plan_means.proofs.Deciding.{may_be_decided}
use Rattle.plan_means.proofs.laws.decided_may_be.Goals as goal

pub returns : goal.returns
returns c = λ b g requested build past plan number tied next. may_be_decided b g requested build past plan tied number next.can next.goes
