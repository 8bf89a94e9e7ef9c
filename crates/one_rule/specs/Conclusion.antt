-- The end of a run: its last texts and its report.
use Rattle.std.specs.Prelude.{◌≡◌, ℕ, List, [], ◌∷◌, ◌++◌, Result, Ok, Err}
use Rattle.world_api.specs.Printed.{SinkMeaning}
use Rattle.one_rule.specs.declared.report.Top.{Top}
use Rattle.one_rule.specs.declared.report.Top.TheVariants.{OutFault}
use Rattle.one_rule.specs.declared.ending.Ending.{Ending}
use Rattle.one_rule.specs.declared.ending.Ending.TheVariants.{Refused, Misread, Stopped, Failed, Built, Unprinted, NoMemory}
use Rattle.one_rule.specs.declared.stops.PrintStop.{PrintStop}
use Rattle.one_rule.specs.declared.stops.PrintStop.TheVariants as stop
use Rattle.world_api.specs.Printing.{Prints, PrintsSome, Cuts}
use Rattle.one_rule.specs.Run.{IsCut}
use Rattle.one_rule.specs.Texts.{fault_text, done_text, terminated_text}

abbrev pub ErrorPrints : {E : Type 0} → SinkMeaning E → List ℕ → E → E → Result (Unit {0}) PrintStop → Type 0
ErrorPrints err text old new (Ok done) = Prints err old new text
ErrorPrints err text old new (Err stop.Unprinted) = Cuts err old new text
ErrorPrints err text old new (Err stop.NoMemory) = Prints err old new []

module _ {O E : Type 0} (out : SinkMeaning O) (err : SinkMeaning E) (old_out new_out : O) (old_err new_err : E) where
  -- the faults found are reported, and the last line of output and their text are printed; or that is cut
  pub data Closes (found : List Top) (last errors : List ℕ) : ℕ → List Top → Type 0 where
    closed : Prints out old_out new_out last → Prints err old_err new_err errors → Closes found last errors 2 found
    cut : {status : ℕ} {tail : List Top} → IsCut (out.faults old_out) (out.faults new_out) (err.faults old_err) (err.faults new_err) status tail
        → PrintsSome out old_out new_out last → PrintsSome err old_err new_err errors → Closes found last errors status (found ++ tail)

-- the last line of output is printed, and what was found is reported; or that is cut
pub data EndsOutput {O : Type 0} (out : SinkMeaning O) (old new : O) (status : ℕ) (found : List Top) (last : List ℕ) : ℕ → List Top → Type 0 where
  ended : Prints out old new last → EndsOutput out old new status found last status found
  refused : Cuts out old new last → EndsOutput out old new status found last 2 (found ++ OutFault ∷ [])

abbrev pub stop_status : PrintStop → ℕ
stop_status stop.Unprinted = 2
stop_status stop.NoMemory = 3

abbrev pub stop_faults : PrintStop → List Top
stop_faults stop.Unprinted = OutFault ∷ []
stop_faults stop.NoMemory = []

-- a run that is cut already: what it reports, and that nothing more is printed
pub record Reports {O E : Type 0} (out : SinkMeaning O) (err : SinkMeaning E) (old_out new_out : O) (old_err new_err : E) (why : PrintStop) (said : ℕ) (told : List Top) : Type 0 where
  pub status : said ≡ stop_status why
  pub faults : told ≡ stop_faults why
  pub output : Prints out old_out new_out []
  pub errors : Prints err old_err new_err []

-- a run without a fault writes no error
pub record Completes {O E : Type 0} (out : SinkMeaning O) (err : SinkMeaning E) (old_out new_out : O) (old_err new_err : E) (said : ℕ) (told : List Top) : Type 0 where
  pub output : EndsOutput out old_out new_out 0 [] done_text said told
  pub errors : Prints err old_err new_err []

abbrev pub Concludes : {O E : Type 0} → SinkMeaning O → SinkMeaning E → O → O → E → E → Ending → ℕ → List Top → Type 0
Concludes out err old_out new_out old_err new_err (Refused fault) said told = Closes out err old_out new_out old_err new_err (fault ∷ []) [] (fault_text fault) said told
Concludes out err old_out new_out old_err new_err (Misread fault) said told = Closes out err old_out new_out old_err new_err (fault ∷ []) [] (fault_text fault) said told
Concludes out err old_out new_out old_err new_err (Stopped fault) said told = Closes out err old_out new_out old_err new_err (fault ∷ []) terminated_text (fault_text fault) said told
Concludes out err old_out new_out old_err new_err (Failed fault) said told = Closes out err old_out new_out old_err new_err (fault ∷ []) terminated_text (fault_text fault) said told
Concludes out err old_out new_out old_err new_err Built said told = Completes out err old_out new_out old_err new_err said told
Concludes out err old_out new_out old_err new_err Unprinted said told = Reports out err old_out new_out old_err new_err stop.Unprinted said told
Concludes out err old_out new_out old_err new_err NoMemory said told = Reports out err old_out new_out old_err new_err stop.NoMemory said told
