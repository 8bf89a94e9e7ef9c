use Rattle.turn_means.proofs.Turns.{found_fresh}
use Rattle.turn_means.proofs.laws.fresh_stands.Goals as goal

pub returns : goal.returns
returns c = λ o jobs old new past rule r rec outset at weighed not_due is_told.
    found_fresh o outset jobs old new past rule r rec at weighed not_due is_told
