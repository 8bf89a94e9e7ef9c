use Rattle.build_means.proofs.Succeeding.{in_order}
use Rattle.build_means.proofs.laws.logs_are_in_order.Goals as goal

pub returns : goal.returns
returns c = in_order c.settled_before_start.ensures
