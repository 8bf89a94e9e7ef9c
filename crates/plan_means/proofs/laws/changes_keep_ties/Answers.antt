use Rattle.plan_means.proofs.Running.{changes_keep}
use Rattle.plan_means.proofs.laws.changes_keep_ties.Goals as goal

pub returns : goal.returns
returns c = λ b g requested t u past plan stays ties. changes_keep b g requested t u past plan stays ties
