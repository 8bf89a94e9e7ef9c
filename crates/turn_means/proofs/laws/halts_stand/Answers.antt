use Rattle.turn_means.proofs.Turns.{halts}
use Rattle.turn_means.proofs.laws.halts_stand.Goals as goal

pub returns : goal.returns
returns c = λ o jobs old new past outset at same ended faulted. halts o outset jobs old new past at same ended faulted
