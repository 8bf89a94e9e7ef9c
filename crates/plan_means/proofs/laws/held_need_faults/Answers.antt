use Rattle.plan_means.proofs.Holding.{held_back}
use Rattle.plan_means.proofs.laws.held_need_faults.Goals as goal

pub returns : goal.returns
returns c = λ b g requested build past plan faulty fault number tied needed held. held_back b g requested build past plan tied faulty fault number needed held
