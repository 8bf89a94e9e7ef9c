use Rattle.build_model.proofs.Clean.{each_step_is_clean}
use Rattle.build_model.proofs.laws.each_step.Goals as goal

pub returns : goal.returns
returns c = each_step_is_clean
