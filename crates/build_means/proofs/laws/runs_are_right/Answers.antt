use Rattle.build_means.proofs.Succeeding.{are_right}
use Rattle.build_means.proofs.laws.runs_are_right.Goals as goal

pub returns : goal.returns
returns c = are_right c.each_step.ensures c.high_enough.ensures
