use Rattle.run_means.proofs.Samples.{are_met}
use Rattle.run_means.proofs.laws.premises_are_met.Goals as goal

pub returns : goal.returns
returns c = are_met
