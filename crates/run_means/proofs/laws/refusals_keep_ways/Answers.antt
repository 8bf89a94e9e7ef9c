use Rattle.run_means.proofs.Launching.{refused}
use Rattle.run_means.proofs.laws.refusals_keep_ways.Goals as goal

pub returns : goal.returns
returns c = λ w kept counts before old new jobs past r reading way may clears.
    refused w kept counts before old jobs past r reading way may new clears
