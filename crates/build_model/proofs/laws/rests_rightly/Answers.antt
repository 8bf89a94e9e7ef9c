use Rattle.build_model.proofs.Resting.{leaves_at_rest}
use Rattle.build_model.proofs.laws.rests_rightly.Goals as goal

pub returns : goal.returns
returns c = λ s b steps found run rest. leaves_at_rest s b steps found run rest
