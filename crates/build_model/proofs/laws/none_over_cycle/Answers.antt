use Rattle.build_model.proofs.Starting.{none_over_cycle}
use Rattle.build_model.proofs.laws.none_over_cycle.Goals as goal

pub returns : goal.returns
returns c = λ s b steps r rs build succeeds needed cycle. none_over_cycle s b steps build r rs succeeds needed cycle
