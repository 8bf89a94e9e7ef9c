use Rattle.build_means.proofs.Succeeding.{go_on}
use Rattle.build_means.proofs.laws.going_on_is_right.Goals as goal

pub returns : goal.returns
returns c = go_on c.keeps_going.ensures c.high_enough.ensures
