use Rattle.turn_means.proofs.Jobs.{refuses}
use Rattle.turn_means.proofs.laws.refusals_stand.Goals as goal

pub returns : goal.returns
returns c = λ o jobs old new past rule r rec outset at weighed is_due room clears ended faulted goes.
    refuses o outset jobs old past rule r rec at weighed is_due room new clears ended faulted goes
