use Rattle.plan_means.proofs.Names.{is_copy}
use Rattle.plan_means.proofs.laws.copies_are_these.Goals as goal

pub returns : goal.returns
returns c = λ b g grown number of past at. is_copy b g grown number of past at
