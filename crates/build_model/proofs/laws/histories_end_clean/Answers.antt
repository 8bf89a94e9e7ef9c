use Rattle.build_model.proofs.Histories.{histories_end_clean}
use Rattle.build_model.proofs.laws.histories_end_clean.Goals as goal

pub returns : goal.returns
returns c = histories_end_clean
