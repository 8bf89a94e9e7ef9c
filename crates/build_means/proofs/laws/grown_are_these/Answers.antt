use Rattle.build_means.proofs.Growing.{are_rules}
use Rattle.build_means.proofs.laws.grown_are_these.Goals as goal

pub returns : goal.returns
returns c = λ b g read reading grown. are_rules b g read reading grown
