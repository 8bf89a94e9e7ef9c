use Rattle.turn_means.proofs.Ends.{succeeds}
use Rattle.turn_means.proofs.laws.finished_succeed.Goals as goal

pub returns : goal.returns
returns c = λ o jobs s past outset at well none_ready finished.
    succeeds o outset jobs s past at well c.settled_succeed.ensures none_ready finished
