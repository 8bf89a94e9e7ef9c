use Rattle.turn_means.proofs.Safety.{done_true}
use Rattle.turn_means.proofs.laws.done_are_true.Goals as goal

pub returns : goal.returns
returns c = λ s ended old new rec ends done acts ticket still. done_true s ended old new rec ends done acts ticket still
