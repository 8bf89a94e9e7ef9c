use Rattle.run_means.proofs.Clearing.{calls_clear}
use Rattle.run_means.proofs.laws.calls_are_clears.Goals as goal

pub returns : goal.returns
returns c = calls_clear
