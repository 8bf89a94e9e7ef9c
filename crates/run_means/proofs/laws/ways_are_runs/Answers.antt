use Rattle.run_means.proofs.Keeping.{did}
use Rattle.run_means.proofs.laws.ways_are_runs.Goals as goal

pub returns : goal.returns
returns c = λ w kept counts before after jobs past reading way. did w kept counts before after jobs past reading way
