use Rattle.turn_means.proofs.Recording.{ends_with}
use Rattle.turn_means.proofs.laws.ended_have_theirs.Goals as goal

pub returns : goal.returns
returns c = λ o jobs old new past r records outset way runs writes are.
    ends_with o outset jobs old new past r records way runs writes are
