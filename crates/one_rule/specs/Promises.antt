-- What follows for a caller from the course that a run takes.
use Rattle.std.specs.Prelude.{◌≡◌, ◌≢◌, ◌⊎◌, ℕ, ◌<◌, ◌-◌, ◌^◌, List, [], Contains}
use Rattle.world_api.specs.Around.{Tree}
use Rattle.scons_base.specs.Rising.{Rose}
use Rattle.world_api.specs.Counts.{Counts}
use Rattle.world_api.specs.Meaning.{Meaning}
use Rattle.world_api.specs.Printed.{SinkMeaning}
use Rattle.world_api.specs.declared.job.Outcome.TheVariants.{Done}
use Rattle.one_rule.specs.declared.rule.Rule.{Rule}
use Rattle.one_rule.specs.declared.report.Top.{Top}
use Rattle.one_rule.specs.declared.report.Top.TheVariants.{Usage, Reading, Missing, ActionFailed, TreeFault, StartFault, OutFault, TooLarge}
use Rattle.one_rule.specs.Building.{HasLog, clean_content}
use Rattle.one_rule.specs.Course.{Course, Refused, Misread, Stopped, Failed, Built, faults_of, output_of}
use Rattle.world_api.specs.Printing.{Prints}
use Rattle.one_rule.specs.Run.{MayTake, IsDue, status_of}

-- A run that ends with status 0: the script's rule is due, its target has the bytes of a clean build of the sources as
-- they stand, its job was started once and done, nothing outside was at fault, and the stated lines are printed.
pub record Succeeds {W O E : Type 0} (world : Meaning W) (out : SinkMeaning O) (err : SinkMeaning E) (words : List (List ℕ)) (old new : W) (old_out new_out : O) (old_err new_err : E) : Type 0 where
  pub rule : Rule
  pub due : world.tells new → IsDue words (world.around old).tree rule
  pub bytes : world.tells new → world.sure new → (world.around new).tree rule.target ≡ clean_content (world.around old).law (world.around old).tree rule
  pub started : world.tells new → HasLog rule (world.counts old) (world.around old).log (world.around new).log Done
  pub counts : world.counts new ≡ world.counts old
  pub output : Prints out old_out new_out (output_of (Built rule))
  pub errors : Prints err old_err new_err []

-- the fault is that of a course which the run may take, or a sink's
abbrev pub IsExplained : List (List ℕ) → Tree → Top → Type 0
IsExplained words tree fault = (fault ≡ OutFault) ⊎ ((course : Course) × MayTake words tree course × Contains (faults_of course) fault)

abbrev pub AreExplained : List (List ℕ) → Tree → List Top → Type 0
AreExplained words tree faults = (fault : Top) → Contains faults fault → IsExplained words tree fault

-- a fault of the outside comes only where its count rose
abbrev pub HasRisen : Counts → Counts → ℕ → ℕ → ℕ → ℕ → Top → Type 0
HasRisen old new old_out new_out old_err new_err (Usage place kind) = Unit {0}
HasRisen old new old_out new_out old_err new_err (Reading file line kind) = Unit {0}
HasRisen old new old_out new_out old_err new_err (Missing node target) = Unit {0}
HasRisen old new old_out new_out old_err new_err (ActionFailed target code) = Rose old.action_failures new.action_failures
HasRisen old new old_out new_out old_err new_err (TreeFault path) = Rose old.tree_faults new.tree_faults
HasRisen old new old_out new_out old_err new_err (StartFault target) = Rose old.start_faults new.start_faults
HasRisen old new old_out new_out old_err new_err OutFault = Rose old_out new_out ⊎ Rose old_err new_err
HasRisen old new old_out new_out old_err new_err (TooLarge path size) = Unit {0}

abbrev pub HaveRisen : {W O E : Type 0} → Meaning W → SinkMeaning O → SinkMeaning E → W → W → O → O → E → E → List Top → Type 0
HaveRisen world out err old new old_out new_out old_err new_err faults =
    (fault : Top) → Contains faults fault
    → HasRisen (world.counts old) (world.counts new) (out.faults old_out) (out.faults new_out) (err.faults old_err) (err.faults new_err) fault

-- a count that didn't rise, and could have
pub record IsSteady (old new : ℕ) : Type 0 where
  pub same : new ≡ old
  pub below : new < 2 ^ 64 - 1

-- nothing outside was at fault, and no action failed
pub record NoneRose (old new : Counts) (old_out new_out old_err new_err : ℕ) : Type 0 where
  pub tree : IsSteady old.tree_faults new.tree_faults
  pub start : IsSteady old.start_faults new.start_faults
  pub action : IsSteady old.action_failures new.action_failures
  pub out : IsSteady old_out new_out
  pub err : IsSteady old_err new_err

abbrev pub IsOfInput : Top → Type 0
IsOfInput (Usage place kind) = Unit {0}
IsOfInput (Reading file line kind) = Unit {0}
IsOfInput (Missing node target) = Unit {0}
IsOfInput (ActionFailed target code) = ⊥
IsOfInput (TreeFault path) = ⊥
IsOfInput (StartFault target) = ⊥
IsOfInput OutFault = ⊥
IsOfInput (TooLarge path size) = Unit {0}

-- a course that needs no fault of the outside
abbrev pub IsInner : Course → Type 0
IsInner (Refused fault) = IsOfInput fault
IsInner (Misread fault) = IsOfInput fault
IsInner (Stopped fault) = IsOfInput fault
IsInner (Failed rule fault) = IsOfInput fault
IsInner (Built rule) = Unit {0}

-- the run is the one that its words and the files call for
abbrev pub IsCalledFor : List (List ℕ) → Tree → ℕ → List Top → Type 0
IsCalledFor words tree status faults = (course : Course) → MayTake words tree course → IsInner course → (status ≡ status_of course) × (faults ≡ faults_of course)

-- so it is where nothing outside was at fault and memory lasted
abbrev pub IsAsCalledFor : {W O E : Type 0} → Meaning W → SinkMeaning O → SinkMeaning E → List (List ℕ) → W → W → O → O → E → E → ℕ → List Top → Type 0
IsAsCalledFor world out err words old new old_out new_out old_err new_err status faults =
    NoneRose (world.counts old) (world.counts new) (out.faults old_out) (out.faults new_out) (err.faults old_err) (err.faults new_err)
    → world.tells new → status ≢ 3 → IsCalledFor words (world.around old).tree status faults
