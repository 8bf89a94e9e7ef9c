use Rattle.plan_means.proofs.Wanting.{may_be_scanned}
use Rattle.plan_means.proofs.laws.scanned_may_be.Goals as goal

pub returns : goal.returns
returns c = λ b g requested t past plan number file now ties next. may_be_scanned b g requested t past plan number file now ties next
