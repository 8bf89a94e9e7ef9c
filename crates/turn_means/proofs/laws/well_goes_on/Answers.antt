use Rattle.turn_means.proofs.Ends.{goes_on}
use Rattle.turn_means.proofs.laws.well_goes_on.Goals as goal

pub returns : goal.returns
returns c = λ o jobs s past outset at well none. goes_on o outset jobs s past at well none
