use Rattle.turn_means.proofs.Recording.{weighed_have}
use Rattle.turn_means.proofs.laws.weighed_have_records.Goals as goal

pub returns : goal.returns
returns c = λ o jobs s past rule r rec outset at goes_on weighed.
    weighed_have o outset jobs s past rule r rec at goes_on weighed
