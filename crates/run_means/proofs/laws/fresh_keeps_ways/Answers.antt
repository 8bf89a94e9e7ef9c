use Rattle.run_means.proofs.Keeping.{fresh}
use Rattle.run_means.proofs.laws.fresh_keeps_ways.Goals as goal

pub returns : goal.returns
returns c = λ w kept counts before around jobs past r way may. fresh w kept counts before around jobs past r way may
