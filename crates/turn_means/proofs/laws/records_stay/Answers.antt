use Rattle.turn_means.proofs.Recording.{stays}
use Rattle.turn_means.proofs.laws.records_stay.Goals as goal

pub returns : goal.returns
returns c = λ o jobs old new past outset way writes.
    stays o outset jobs old new past way writes
