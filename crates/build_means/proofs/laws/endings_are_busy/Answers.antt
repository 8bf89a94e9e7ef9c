use Rattle.build_means.proofs.Succeeding.{are_busy}
use Rattle.build_means.proofs.laws.endings_are_busy.Goals as goal

pub returns : goal.returns
returns c = are_busy c.busy_at_each_ending.ensures c.high_enough.ensures
