use Rattle.turn_means.proofs.Safety.{true_stays}
use Rattle.turn_means.proofs.laws.true_stay.Goals as goal

pub returns : goal.returns
returns c = λ s old new rec is met files still. true_stays s old new rec is met files still
