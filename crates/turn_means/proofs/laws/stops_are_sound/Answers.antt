use Rattle.turn_means.proofs.Safety.{stop}
use Rattle.turn_means.proofs.laws.stops_are_sound.Goals as goal

pub returns : goal.returns
returns c = λ s around records left safe is_left. stop s records around left safe is_left
