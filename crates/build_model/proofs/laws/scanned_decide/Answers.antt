use Rattle.build_model.proofs.Agree.{scanned_decide}
use Rattle.build_model.proofs.laws.scanned_decide.Goals as goal

pub returns : goal.returns
returns c = scanned_decide
