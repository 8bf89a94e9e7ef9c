use Rattle.run_means.proofs.Ending.{ended_for}
use Rattle.run_means.proofs.laws.endings_keep_ways.Goals as goal

pub returns : goal.returns
returns c = λ w kept counts before old new jobs past ended reading way wait ends.
    ended_for w kept counts before old new jobs past ended reading way wait (Unit {0}) tt ends
