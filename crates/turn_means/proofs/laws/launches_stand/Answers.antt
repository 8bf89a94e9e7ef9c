use Rattle.turn_means.proofs.Jobs.{launches}
use Rattle.turn_means.proofs.laws.launches_stand.Goals as goal

pub returns : goal.returns
returns c = λ o jobs old mid new past rule r rec job counts outset at weighed is_due is.
    launches o outset jobs old past rule r rec at weighed is_due is.room mid new job counts is
