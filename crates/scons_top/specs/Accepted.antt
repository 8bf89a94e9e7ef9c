-- What holds of a run whose words are accepted.
use Rattle.std.specs.Prelude.{◌≡◌, ℕ, List, Ok}
use Rattle.world_api.specs.Meaning.{Meaning}
use Rattle.world_api.specs.Printed.{SinkMeaning}
use Rattle.scons_words.specs.Readings.{read}
use Rattle.scons_words.specs.declared.words.Words.{Words}
use Rattle.scons_top.specs.Complete.{RunCompletes}
use Rattle.scons_top.specs.declared.report.Report.{Report}

-- where nothing outside was at fault, it ends well, or its report says what stands in its way
abbrev pub AcceptedCompletes : {W O E : Type 0} → Meaning W → SinkMeaning O → SinkMeaning E → List (List ℕ) → W → O → E → W → O → E → Report → Type 0
AcceptedCompletes m o e words world out err new_world new_out new_err report =
    (said : Words) → read words ≡ Ok said → RunCompletes m o e world out err new_world new_out new_err report
