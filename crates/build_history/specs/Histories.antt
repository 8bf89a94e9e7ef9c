-- Histories: edits, removals, builds and builds that were stopped, one after another.
use Rattle.std.specs.Prelude.{◌≡◌, ⊤, ℕ, List, [], ◌++◌, ◌∷◌, Ok, true, false, length}
use Rattle.std.specs.Option.{is_some}
use Rattle.world_api.specs.Meaning.{IsImage}
use Rattle.world_api.specs.Banks.{Banks}
use Rattle.world_mem.specs.Blocked.{IsKept}
use Rattle.world_mem.specs.Files.{AreFiles}
use Rattle.world_mem.specs.Means.{around_in, seen_in, world_meaning}
use Rattle.world_mem.specs.declared.world.MemWorld.{MemWorld}
use Rattle.sign_store.specs.Ends.{image_in}
use Rattle.sign_store.specs.Tables.{Map, nothing}
use Rattle.build_model.specs.Rules.{Setting}
use Rattle.build_means.specs.Builds.{Wanted}
use Rattle.build_run.specs.Outsets.{GoesByContent, HasSucceeded, IsCleanly}
use Rattle.build_run.specs.Safe.{IsOfLaw}
use Rattle.build_run.specs.Truth.{TellsTruth}
use Rattle.scons_words.specs.Readings.{read}
use Rattle.scons_words.specs.declared.words.Words.{Words}
use Rattle.scons_top.specs.Builds.{AskForBuild, HasBuilt, wanted_by}
use Rattle.scons_top.specs.declared.report.Report.{Report}
use Rattle.build_history.specs.Events.{AreSettled, IsEdit, IsRemoval, IsRun, IsStopped}
use Rattle.build_history.specs.declared.event.Event.{Event}
use Rattle.build_history.specs.declared.event.Event.TheVariants as event
use Rattle.build_history.specs.declared.event.HistoryFault.{HistoryFault}
use Rattle.build_history.specs.declared.event.HistoryFault.TheVariants as fault
use Rattle.build_history.specs.declared.told.Told.{Told}

-- ---- the truth

-- whatever a stop may leave of a world, its records are true of its files, by what its actions make
abbrev pub IsTrueWorld : MemWorld → Type 0
IsTrueWorld world = (s : Setting) → IsOfLaw s (around_in world) → TellsTruth world_meaning s world

-- a world without records: whatever a stop may leave of its banks stands for none
abbrev pub HasNoRecords : MemWorld → Type 0
HasNoRecords world = (banks : Banks) → IsImage world_meaning world banks → image_in banks ≡ nothing

-- ---- the headline

-- a build ended as the clean one does, where it went by content
abbrev pub EndsByContent : (w : Wanted) (map : Map) (old new : MemWorld) (behind : Map) → HasSucceeded world_meaning w map old new behind → Type 0
EndsByContent w map old new behind did = GoesByContent w did.kept did.left (around_in new) →
    IsCleanly w did.kept did.left (around_in new) did.succeeded.runs.steps

-- a run built so, where it answers status 0
pub record IsClean (said : Words) (old new : MemWorld) (report : Report) : Type 0 where
  pub built : HasBuilt world_meaning said old new report
  pub clean : (zero : report.status ≡ 0) →
      EndsByContent (wanted_by said built.graph built.requested) (image_in (seen_in old)) old new built.kept (built.succeeds zero)

-- so does each that these words ask for, in a history from a world that tells the truth
abbrev pub EndsClean : MemWorld → List (List ℕ) → MemWorld → MemWorld → Report → Type 0
EndsClean first words old new report = IsTrueWorld first → (said : Words) → read words ≡ Ok said → AskForBuild said →
    report.status ≡ 0 → IsClean said old new report

-- ---- one event

-- the files behind an event stand behind those that stood behind each event before it
pub record KeepsFiles (old new : Told) : Type 0 where
  pub files : List (List ℕ × List ℕ)
  pub are : AreFiles (around_in new.world).tree files
  pub trees : new.trees.items ≡ old.trees.items ++ files ∷ []

-- nothing was reported
pub record TellsNothing (old new : Told) : Type 0 where
  pub reports : new.reports.items ≡ old.reports.items
  pub outs : new.outs.items ≡ old.outs.items

-- a run has its report and what it printed
pub record TellsRun (words : List (List ℕ)) (old new : Told) : Type 0 where
  pub report : Report
  pub printed : List ℕ
  pub run : IsRun words old.world new.world report printed
  pub reports : new.reports.items ≡ old.reports.items ++ report ∷ []
  pub outs : new.outs.items ≡ old.outs.items ++ printed ∷ []

-- what an event makes of the world and of what is told of it
abbrev pub Tells : Event → Told → Told → Type 0
Tells (event.Edit path bytes) old new = TellsNothing old new × IsEdit path bytes old.world new.world
Tells (event.Delete path) old new = TellsNothing old new × IsRemoval path old.world new.world
Tells (event.Build words) old new = TellsRun words.items old new
Tells (event.Stopped words calls pick) old new = TellsNothing old new × IsStopped words.items calls pick old.world new.world

-- so it does, and the files behind it haven't been told yet
pub record Happens (e : Event) (old new : Told) : Type 0 where
  pub tells : Tells e old new
  pub trees : new.trees.items ≡ old.trees.items
  pub idle : (around_in new.world).running ≡ []

-- a run was stopped, and what is told of it stays as it was
pub record StopsIn (words : List (List ℕ)) (calls pick : ℕ) (old new : Told) : Type 0 where
  pub stopped : IsStopped words calls pick old.world new.world
  pub trees : new.trees ≡ old.trees
  pub reports : new.reports ≡ old.reports
  pub outs : new.outs ≡ old.outs
  pub idle : (around_in new.world).running ≡ []

-- One event leads on.
pub record Goes (e : Event) (old new : Told) : Type 0 where
  pub tells : Tells e old new
  pub files : KeepsFiles old new
  pub idle : (around_in new.world).running ≡ []

-- a build behind others of a history ends clean, whatever it reports
abbrev pub EndsCleanly : MemWorld → Event → MemWorld → MemWorld → Type 0
EndsCleanly first (event.Edit path bytes) old new = ⊤
EndsCleanly first (event.Delete path) old new = ⊤
EndsCleanly first (event.Build words) old new =
    (report : Report) (printed : List ℕ) → IsRun words.items old new report printed → EndsClean first words.items old new report
EndsCleanly first (event.Stopped words calls pick) old new = ⊤

-- one event of a history
pub record IsNext (first : MemWorld) (e : Event) (old new : Told) : Type 0 where
  pub goes : Goes e old new
  pub clean : EndsCleanly first e old.world new.world

-- ---- a history

-- What is told of a list of events that began in a world.
pub data IsHistory (first : MemWorld) : List Event → Told → Type 0 where
  begins : {told : Told} → told.world ≡ first → told.trees.items ≡ [] → told.reports.items ≡ [] → told.outs.items ≡ [] →
      IsHistory first [] told
  goes_on : {past : List Event} {e : Event} {old new : Told} → IsHistory first past old → IsNext first e old new →
      IsHistory first (past ++ e ∷ []) new

-- What a history promises: each event made what is said of it, and what is left tells the truth where the first world did.
pub record IsTold (events : List Event) (first : MemWorld) (told : Told) : Type 0 where
  pub history : IsHistory first events told
  pub stays_true : IsTrueWorld first → IsTrueWorld told.world

-- ---- refusals

-- why an edit is refused, in this order
abbrev pub RefusesEdit : ℕ → List ℕ → MemWorld → HistoryFault → Type 0
RefusesEdit place path world (fault.Unsynced at) = (at ≡ place) × (AreSettled world → ⊥)
RefusesEdit place path world (fault.HasRecord at) = (at ≡ place) × AreSettled world × (is_some (image_in (seen_in world) path) ≡ true)
RefusesEdit place path world (fault.Place at) =
    (at ≡ place) × AreSettled world × (is_some (image_in (seen_in world) path) ≡ false) × IsKept (around_in world) path
RefusesEdit place path world fault.Memory = ⊤

-- nothing else is refused, but where memory is wanting
abbrev pub Refuses : ℕ → Event → MemWorld → HistoryFault → Type 0
Refuses place (event.Edit path bytes) world f = RefusesEdit place path world f
Refuses place (event.Delete path) world f = f ≡ fault.Memory
Refuses place (event.Build words) world f = f ≡ fault.Memory
Refuses place (event.Stopped words calls pick) world f = f ≡ fault.Memory

-- A history is refused at the first event that is.
pub record IsRefused (events : List Event) (first : MemWorld) (f : HistoryFault) : Type 0 where
  pub past : List Event
  pub e : Event
  pub rest : List Event
  pub parts : events ≡ past ++ e ∷ rest
  pub told : Told
  pub history : IsHistory first past told
  pub refuses : Refuses (length past) e told.world f
