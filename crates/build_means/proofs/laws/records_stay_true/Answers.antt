use Rattle.build_means.proofs.Succeeding.{stay_true}
use Rattle.build_means.proofs.laws.records_stay_true.Goals as goal

pub returns : goal.returns
returns c = stay_true c.stays_sound.ensures
