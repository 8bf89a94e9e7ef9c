use Rattle.turn_means.proofs.Turns.{sets_out}
use Rattle.turn_means.proofs.laws.setting_out_stands.Goals as goal

pub returns : goal.returns
returns c = λ o s outset out. sets_out o outset s out
