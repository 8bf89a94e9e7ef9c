use Rattle.build_model.proofs.Ending.{nothing_after_fault}
use Rattle.build_model.proofs.laws.nothing_after_fault.Goals as goal

pub returns : goal.returns
returns c = nothing_after_fault
