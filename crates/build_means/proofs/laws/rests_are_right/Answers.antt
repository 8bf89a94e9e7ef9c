use Rattle.build_means.proofs.Succeeding.{rest_right}
use Rattle.build_means.proofs.laws.rests_are_right.Goals as goal

pub returns : goal.returns
returns c = rest_right c.rests_rightly.ensures
