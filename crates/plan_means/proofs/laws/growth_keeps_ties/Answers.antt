use Rattle.plan_means.proofs.Growth.{growth_keeps}
use Rattle.plan_means.proofs.laws.growth_keeps_ties.Goals as goal

pub returns : goal.returns
returns c = λ b g h requested t past plan before now grows ties. growth_keeps b g h before now grows requested t past plan ties
