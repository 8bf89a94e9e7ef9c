use Rattle.turn_means.proofs.Recording.{begins}
use Rattle.turn_means.proofs.laws.records_begin.Goals as goal

pub returns : goal.returns
returns c = λ o around.
    begins o around
