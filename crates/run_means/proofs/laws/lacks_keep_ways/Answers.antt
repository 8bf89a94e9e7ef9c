use Rattle.run_means.proofs.Keeping.{lacking}
use Rattle.run_means.proofs.laws.lacks_keep_ways.Goals as goal

pub returns : goal.returns
returns c = λ w kept counts before around jobs past r p way may. lacking w kept counts before around jobs past r p way
    may
