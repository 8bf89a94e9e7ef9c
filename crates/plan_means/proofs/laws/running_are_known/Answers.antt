use Rattle.plan_means.proofs.Running.{running_known}
use Rattle.plan_means.proofs.laws.running_are_known.Goals as goal

pub returns : goal.returns
returns c = running_known
