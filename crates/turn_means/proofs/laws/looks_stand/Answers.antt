use Rattle.turn_means.proofs.Turns.{looked}
use Rattle.turn_means.proofs.laws.looks_stand.Goals as goal

pub returns : goal.returns
returns c = λ o jobs old new past outset at looks. looked o outset jobs old new past at looks
