use Rattle.plan_means.proofs.Names.{is_named}
use Rattle.plan_means.proofs.laws.names_are_these.Goals as goal

pub returns : goal.returns
returns c = λ b g read reading grown number of at. is_named b g grown reading number of at
