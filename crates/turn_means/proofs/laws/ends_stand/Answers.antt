use Rattle.turn_means.proofs.Turns.{ends}
use Rattle.turn_means.proofs.laws.ends_stand.Goals as goal

pub returns : goal.returns
returns c = λ o jobs old new past outset at asks ended faulted goes.
    ends o outset jobs old new past at asks ended faulted goes
