use Rattle.turn_means.proofs.Ends.{runs}
use Rattle.turn_means.proofs.laws.standing_runs.Goals as goal

pub returns : goal.returns
returns c = λ o jobs s past outset at. runs o outset jobs s past at
