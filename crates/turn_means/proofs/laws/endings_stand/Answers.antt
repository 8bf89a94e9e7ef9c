use Rattle.turn_means.proofs.Jobs.{ends_behind}
use Rattle.turn_means.proofs.laws.endings_stand.Goals as goal

pub returns : goal.returns
returns c = λ o jobs old new past ended outset at wait ends is.
    ends_behind o outset jobs old new past ended at wait (Unit {0}) tt ends is
