use Rattle.plan_means.proofs.Samples.{are_met}
use Rattle.plan_means.proofs.laws.premises_are_met.Goals as goal

pub returns : goal.returns
returns c = are_met
