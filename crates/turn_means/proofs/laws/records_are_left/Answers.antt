use Rattle.turn_means.proofs.Recording.{leaves}
use Rattle.turn_means.proofs.laws.records_are_left.Goals as goal

pub returns : goal.returns
returns c = λ o around past records are.
    leaves o around past records are
