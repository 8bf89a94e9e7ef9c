use Rattle.turn_means.proofs.Safety.{calls}
use Rattle.turn_means.proofs.laws.calls_are_safe.Goals as goal

pub returns : goal.returns
returns c = λ s records. calls s records
