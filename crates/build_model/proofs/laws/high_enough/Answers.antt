use Rattle.build_model.proofs.Placed.{high_enough}
use Rattle.build_model.proofs.laws.high_enough.Goals as goal

pub returns : goal.returns
returns c = high_enough
