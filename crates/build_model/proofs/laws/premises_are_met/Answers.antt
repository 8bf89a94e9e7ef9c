use Rattle.build_model.proofs.Examples.{are_met}
use Rattle.build_model.proofs.laws.premises_are_met.Goals as goal

pub returns : goal.returns
returns c = are_met
