use Rattle.run_means.proofs.Keeping.{halting}
use Rattle.run_means.proofs.laws.halts_keep_ways.Goals as goal

pub returns : goal.returns
returns c = λ w kept counts before around jobs past way. halting w kept counts before around jobs past way
