-- That a run may be stopped at any moment: what a stop leaves of the files and of the banks tells the truth.
use Rattle.world_api.specs.Meaning.{Meaning}
use Rattle.build_model.specs.Rules.{Setting}
use Rattle.build_run.specs.Safe.{IsOfLawNow, StaysTrue}
use Rattle.build_run.specs.Truth.{TellsTruth}

-- A run tells the truth wherever it is stopped, whatever its words and whatever it answers, where what stood before told the truth.
-- So does each of its steps, and so do runs, one after another.
abbrev pub RunsSafely : {W : Type 0} → Meaning W → W → W → Type 0
RunsSafely m old new = (s : Setting) → IsOfLawNow m s old → TellsTruth m s old → StaysTrue m s old new
