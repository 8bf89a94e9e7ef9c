use Rattle.run_means.proofs.Keeping.{cleared}
use Rattle.run_means.proofs.laws.clears_keep_ways.Goals as goal

pub returns : goal.returns
returns c = λ w kept counts before old new jobs past reading way clears. cleared w kept counts before old new jobs past
    reading way clears
