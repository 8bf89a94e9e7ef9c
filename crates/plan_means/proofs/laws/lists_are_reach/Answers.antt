use Rattle.plan_means.proofs.Reaching.{lists_are_reach}
use Rattle.plan_means.proofs.laws.lists_are_reach.Goals as goal

pub returns : goal.returns
returns c = λ g of r kept limit includes reading is names keeps agrees room. lists_are_reach g of r kept limit includes reading is names keeps agrees room
