-- What stands tells the truth: the records of the banks are true of the files, whatever a stop leaves of both.
use Rattle.world_api.specs.Around.{Around}
use Rattle.world_api.specs.Banks.{Banks}
use Rattle.world_api.specs.Meaning.{Meaning, IsImage}
use Rattle.sign_store.specs.Ends.{image_in}
use Rattle.build_model.specs.Records.{AreSound}
use Rattle.build_model.specs.Rules.{Setting, Tree}
use Rattle.build_means.specs.Records.{records_in}
use Rattle.turn_means.specs.Safety.{IsLeft}

-- whatever a stop leaves of the files, these banks tell the truth of it
abbrev pub IsSafeMoment : Setting → Around → Banks → Type 0
IsSafeMoment s around banks = (left : Tree) → IsLeft around left → AreSound s around.met left (records_in (image_in banks))

-- whatever a stop leaves now tells the truth
abbrev pub TellsTruth : {W : Type 0} → Meaning W → Setting → W → Type 0
TellsTruth m s world = m.tells world → m.sure world → (banks : Banks) → IsImage m world banks → IsSafeMoment s (m.around world) banks
