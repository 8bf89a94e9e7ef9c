-- What a run of the command does: which course it takes, and what it leaves outside.
use Rattle.std.specs.Prelude.{◌≡◌, ◌≢◌, ◌⊎◌, ℕ, List, [], ◌∷◌, ◌++◌}
use Rattle.world_api.specs.Around.{Around, Tree}
use Rattle.scons_base.specs.Rising.{Rose}
use Rattle.world_api.specs.Counts.{Counts}
use Rattle.world_api.specs.Meaning.{Meaning}
use Rattle.world_api.specs.Printed.{SinkMeaning}
use Rattle.one_rule.specs.declared.rule.Rule.{Rule}
use Rattle.one_rule.specs.declared.report.Top.{Top}
use Rattle.one_rule.specs.declared.report.Top.TheVariants.{Usage, OutFault}
use Rattle.one_rule.specs.declared.report.UsageKind.TheVariants.{NotBuilt}
use Rattle.one_rule.specs.Building.{Unchanged, HasSource, Leaves, MayBuild}
use Rattle.one_rule.specs.Course.{Course, Refused, Misread, Stopped, Failed, Built, faults_of, begun_text, end_text, output_of, errors_of}
use Rattle.one_rule.specs.Ends.{FaultCause, FailLogs, Makes}
use Rattle.world_api.specs.Printing.{Prints, PrintsThen, PrintsSome}
use Rattle.one_rule.specs.Reading.{Reads, Misreads}

-- The courses that a run over these words and files may take. Of the faults it names exactly those of the words and the
-- files; the faults of the outside (a refusing file tree, an action that isn't started or fails) may come at their places.
pub data MayTake (words : List (List ℕ)) (tree : Tree) : Course → Type 0 where
  refused : words ≢ [] → MayTake words tree (Refused (Usage 0 NotBuilt))
  misread : {fault : Top} → words ≡ [] → Misreads tree fault → MayTake words tree (Misread fault)
  builds : {course : Course} (rule : Rule) → words ≡ [] → Reads tree rule → MayBuild tree rule course → MayTake words tree course

-- the rule of the script is to be run: its source is a file
pub record IsDue (words : List (List ℕ)) (tree : Tree) (rule : Rule) : Type 0 where
  pub no_words : words ≡ []
  pub reads : Reads tree rule
  pub source : HasSource tree rule

-- what a run leaves, however it ends: nothing is another, or the rule is due and no file but its target is another
abbrev pub LeavesAll : List (List ℕ) → Counts → Around → Around → Type 0
LeavesAll words counts old new = Unchanged old new ⊎ ((rule : Rule) × IsDue words old.tree rule × Leaves rule counts old new)

-- the same between two states of a world
abbrev pub LeavesAllIn : {W : Type 0} → Meaning W → List (List ℕ) → W → W → Type 0
LeavesAllIn meaning words old new = LeavesAll words (meaning.counts old) (meaning.around old) (meaning.around new)

-- which count of the outside rose
abbrev pub CourseCause : Course → Counts → Counts → Type 0
CourseCause (Refused fault) old new = FaultCause fault old new
CourseCause (Misread fault) old new = FaultCause fault old new
CourseCause (Stopped fault) old new = FaultCause fault old new
CourseCause (Failed rule fault) old new = FaultCause fault old new
CourseCause (Built rule) old new = new ≡ old

-- what is another: nothing, where the run ends before building; else what the log gains, and the bytes of a target that is built
abbrev pub CourseMakes : Type 0 → Counts → Around → Around → Course → Type 0
CourseMakes sure counts old new (Refused fault) = Unchanged old new
CourseMakes sure counts old new (Misread fault) = Unchanged old new
CourseMakes sure counts old new (Stopped fault) = new.log ≡ old.log
CourseMakes sure counts old new (Failed rule fault) = FailLogs rule counts old new fault
CourseMakes sure counts old new (Built rule) = Makes sure rule counts old new

-- the course that was taken, up to its end
pub record Takes {W : Type 0} (meaning : Meaning W) (words : List (List ℕ)) (old new : W) (course : Course) : Type 0 where
  pub may : meaning.tells new → MayTake words (meaning.around old).tree course
  pub makes : meaning.tells new → CourseMakes (meaning.sure new) (meaning.counts old) (meaning.around old) (meaning.around new) course
  pub cause : CourseCause course (meaning.counts old) (meaning.counts new)

-- the rule whose line a course prints is the script's
abbrev pub MayPrint : List (List ℕ) → Tree → Course → Type 0
MayPrint words tree (Refused fault) = words ≢ []
MayPrint words tree (Misread fault) = words ≡ []
MayPrint words tree (Stopped fault) = words ≡ []
MayPrint words tree (Failed rule fault) = (words ≡ []) × Reads tree rule
MayPrint words tree (Built rule) = (words ≡ []) × Reads tree rule

-- How a run may be cut short: a sink refuses, or memory runs out. `status` is the run's, `tail` its last fault.
pub data IsCut (old_out new_out old_err new_err : ℕ) : ℕ → List Top → Type 0 where
  out_refused : Rose old_out new_out → IsCut old_out new_out old_err new_err 2 (OutFault ∷ [])
  err_refused : Rose old_err new_err → IsCut old_out new_out old_err new_err 2 (OutFault ∷ [])
  no_memory : IsCut old_out new_out old_err new_err 3 []

abbrev pub status_of : Course → ℕ
status_of (Refused fault) = 2
status_of (Misread fault) = 2
status_of (Stopped fault) = 2
status_of (Failed rule fault) = 2
status_of (Built rule) = 0

module _ {W O E : Type 0} (world : Meaning W) (out : SinkMeaning O) (err : SinkMeaning E) (words : List (List ℕ)) (old_world new_world : W) (old_out new_out : O) (old_err new_err : E) where
  -- Whole: a course is taken, and all its text is printed. Unprinted: a course is taken to its end, all but its last line
  -- of output is printed, and then a text is cut. Broken: the run is cut before the end of any course, and where a sink cut
  -- it nothing was started. `status` and `faults` are the report's.
  pub data Runs : ℕ → List Top → Type 0 where
    whole : (course : Course) → Takes world words old_world new_world course
        → Prints out old_out new_out (output_of course) → Prints err old_err new_err (errors_of course)
        → Runs (status_of course) (faults_of course)
    unprinted : (course : Course) (status : ℕ) (tail : List Top) → Takes world words old_world new_world course
        → IsCut (out.faults old_out) (out.faults new_out) (err.faults old_err) (err.faults new_err) status tail
        → PrintsThen out old_out new_out (begun_text course) (end_text course) → PrintsSome err old_err new_err (errors_of course)
        → Runs status (faults_of course ++ tail)
    broken : (course : Course) (status : ℕ) (tail : List Top) → world.counts new_world ≡ world.counts old_world
        → (world.tells new_world → MayPrint words (world.around old_world).tree course)
        → (status ≡ 2 → world.tells new_world → (world.around new_world).log ≡ (world.around old_world).log)
        → IsCut (out.faults old_out) (out.faults new_out) (err.faults old_err) (err.faults new_err) status tail
        → PrintsSome out old_out new_out (output_of course) → Prints err old_err new_err []
        → Runs status tail
