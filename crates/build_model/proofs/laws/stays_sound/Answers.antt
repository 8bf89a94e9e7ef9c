use Rattle.build_model.proofs.Leaving.{stays_sound}
use Rattle.build_model.proofs.laws.stays_sound.Goals as goal

pub returns : goal.returns
returns c = λ s b steps m build untouched sound each. stays_sound s b steps m build untouched sound each
