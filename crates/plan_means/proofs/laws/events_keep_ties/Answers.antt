use Rattle.plan_means.proofs.Stepping.{events_keep}
use Rattle.plan_means.proofs.laws.events_keep_ties.Goals as goal

pub returns : goal.returns
returns c = λ b g requested t past old new event step now ties tells is. events_keep b g requested t past old new now ties tells is
