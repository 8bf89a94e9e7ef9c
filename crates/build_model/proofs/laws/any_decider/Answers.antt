use Rattle.build_model.proofs.Starting.{any_decider}
use Rattle.build_model.proofs.laws.any_decider.Goals as goal

pub returns : goal.returns
returns c = λ s b steps build tests succeeds. any_decider s b steps build tests succeeds
