use Rattle.build_model.proofs.Runs.{only_once}
use Rattle.build_model.proofs.laws.only_once.Goals as goal

pub returns : goal.returns
returns c = only_once
