use Rattle.run_means.proofs.Launching.{launched}
use Rattle.run_means.proofs.laws.launches_keep_ways.Goals as goal

pub returns : goal.returns
returns c = λ w kept counts before old mid new jobs past r job at reading way may clears start handed.
    launched w kept counts before old jobs past r reading way may mid new job at clears start handed
