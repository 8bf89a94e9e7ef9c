use Rattle.turn_means.proofs.Recording.{begins_without}
use Rattle.turn_means.proofs.laws.begun_have_none.Goals as goal

pub returns : goal.returns
returns c = λ o jobs old new past r records after outset way is_decided writes are none others.
    begins_without o outset jobs old new past r records after way is_decided writes are none others
