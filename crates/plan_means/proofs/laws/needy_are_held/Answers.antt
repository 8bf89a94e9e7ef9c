use Rattle.plan_means.proofs.Holding.{has_fault}
use Rattle.plan_means.proofs.laws.needy_are_held.Goals as goal

pub returns : goal.returns
returns c = λ b g requested build past plan faulty number r q tied still count all is need needs f out.
    has_fault b g requested build past plan tied still count faulty all q f number r is need needs out
