use Rattle.run_means.proofs.Settled.{stays_so}
use Rattle.run_means.proofs.laws.settled_stay.Goals as goal

pub returns : goal.returns
returns c = λ w kept counts before old new jobs more past later reading way further.
    stays_so w kept counts before old new jobs more past later reading way further
