-- That records tell the truth wherever a build may be stopped, call by call.
use Rattle.std.specs.Prelude.{◌≡◌, ◌⊎◌, List, Contains, map, Some, None}
use Rattle.deciders.specs.declared.recorded.Rec.{Rec}
use Rattle.sign_store.specs.Tables.{with_each}
use Rattle.world_api.specs.Around.{Around, Running, IsRunningTarget}
use Rattle.world_api.specs.Calls.{Asks, MakesDir, Removes, Starts, Ends}
use Rattle.world_api.specs.Counts.{Counts}
use Rattle.world_api.specs.declared.job.Ended.{Ended}
use Rattle.world_api.specs.declared.job.Job.{Job}
use Rattle.world_api.specs.declared.job.Outcome.TheVariants.{Done}
use Rattle.build_model.specs.Rules.{Path, Bytes, Content, Tree, Setting, Among}
use Rattle.build_model.specs.Records.{AreSound, IsMadeBy, IsMet, digested, named_digest}
use Rattle.build_means.specs.Builds.{Kept}
use Rattle.build_means.specs.Graphs.{act_by}
use Rattle.build_means.specs.Records.{record_in, records_in}
use Rattle.turn_means.specs.Recording.{HaveNone}

-- No target of a running job has a record, and where a file is there it is what its record says.
pub record IsSafe (s : Setting) (around : Around) (records : Kept) : Type 0 where
  pub none : (path : Path) → IsRunningTarget around.running path → records path ≡ None
  pub sound : AreSound s around.met around.tree (records_in records)

-- what a stop may leave of the files: whatever it is at targets of running jobs
abbrev pub IsLeft : Around → Tree → Type 0
IsLeft around left = (path : Path) → (IsRunningTarget around.running path → ⊥) → left path ≡ around.tree path

-- the record that a running job's rule is to have: of its action, on the digests of what it was given, which was met
pub record IsTicketOf (s : Setting) (met : List Bytes) (run : Running) (rec : Rec) : Type 0 where
  pub work : rec.work ≡ run.job.work
  pub signed : rec.signed ≡ run.job.signed
  pub targets : rec.targets ≡ run.job.targets
  pub digests : map (digested s (record_in rec).hash) run.given ≡ map named_digest (record_in rec).dependencies
  pub each_met : (x : Path × Content) → Among x run.given → IsMet met x.1

-- a record is true of what stands at its targets, and no running job writes one of them
pub record IsTrue (s : Setting) (around : Around) (rec : Rec) : Type 0 where
  pub made : (path : Path) (bytes : Bytes) → Contains rec.targets path → around.tree path ≡ Some bytes →
      IsMadeBy s around.met (record_in rec) path bytes
  pub still : (path : Path) → Contains rec.targets path → IsRunningTarget around.running path → ⊥

-- what actions make is what the world's law says
abbrev pub ActsAs : Setting → Around → Type 0
ActsAs s around = s.act ≡ act_by around.law

-- What a stop leaves of a safe moment tells the truth.
abbrev pub StopsAreSound : Type 0
StopsAreSound = (s : Setting) (around : Around) (records : Kept) (left : Tree) → IsSafe s around records → IsLeft around left →
    AreSound s around.met left (records_in records)

-- A build is safe through its calls, whatever they answer:
pub record AreSafe (s : Setting) (records : Kept) : Type 0 where
  pub looks : (old new : Around) → Asks old new → IsSafe s old records → IsSafe s new records
  pub makes_dir : (dir : Path) (old new : Around) → MakesDir dir old new → IsSafe s old records → IsSafe s new records
  pub removes : (path : Path) (old new : Around) → Removes path old new → IsSafe s old records → IsSafe s new records
  -- a job starts whose targets have no record
  pub starts : (job : Job) (counts : Counts) (old new : Around) → Starts job counts old new → HaveNone job.targets records →
      IsSafe s old records → IsSafe s new records
  pub ends : (ended : Ended) (old new : Around) → Ends (Unit {0}) ended old new → IsSafe s old records → IsSafe s new records
  -- records are withdrawn
  pub fewer : (around : Around) (fewer : Kept) → ((path : Path) → (fewer path ≡ records path) ⊎ (fewer path ≡ None)) →
      IsSafe s around records → IsSafe s around fewer
  -- one is put that is true
  pub puts : (around : Around) (rec : Rec) → IsTrue s around rec → IsSafe s around records →
      IsSafe s around (with_each rec.targets (Some rec) records)

abbrev pub CallsAreSafe : Type 0
CallsAreSafe = (s : Setting) (records : Kept) → AreSafe s records

-- Where a job is done, in a world that is sure, the record that its rule is to have is true then. It holds by whatever makes a
-- world sure (`true_for` of proofs/Safety.antt).
abbrev pub DoneAreTrue : Type 0
DoneAreTrue = (s : Setting) (ended : Ended) (old new : Around) (rec : Rec) → (ends : Ends (Unit {0}) ended old new) → ended.outcome ≡ Done →
    ActsAs s old → IsTicketOf s old.met ends.which rec →
    ((path : Path) → Contains rec.targets path → IsRunningTarget new.running path → ⊥) → IsTrue s new rec

-- And it stays true while nothing writes there.
abbrev pub TrueStay : Type 0
TrueStay = (s : Setting) (old new : Around) (rec : Rec) → IsTrue s old rec →
    ((bytes : Bytes) → Contains old.met bytes → Contains new.met bytes) →
    ((path : Path) → Contains rec.targets path → new.tree path ≡ old.tree path) →
    ((path : Path) → Contains rec.targets path → IsRunningTarget new.running path → ⊥) → IsTrue s new rec
