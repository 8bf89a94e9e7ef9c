use Rattle.build_model.proofs.GoingOn.{found_is_taken_out}
use Rattle.build_model.proofs.laws.found_is_taken_out.Goals as goal

pub returns : goal.returns
returns c = λ s b steps found top build by low rest. found_is_taken_out s b steps found top build by low rest
