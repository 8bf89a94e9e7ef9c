-- What each call of a world does to what stands around.
use Rattle.std.specs.Prelude.{◌≡◌, ◌≢◌, ◌⊎◌, ℕ, Bool, true, List, [], ◌∷◌, ◌++◌, ◌||◌, Contains, Some, None, IsTrue}
use Rattle.world_api.specs.declared.job.Job.{Job}
use Rattle.world_api.specs.declared.job.Ended.{Ended}
use Rattle.world_api.specs.declared.job.Outcome.TheVariants.{Done}
use Rattle.world_api.specs.Act.{act}
use Rattle.world_api.specs.Around.{Around, Tree, Running, Started, Finished, IsRunningTarget, given_of}
use Rattle.world_api.specs.Counts.{Counts}
use Rattle.scons_base.specs.Parts.{is_below, lies_in}

-- whatever was in the old list is in the new one
abbrev pub Grows : List (List ℕ) → List (List ℕ) → Type 0
Grows old new = (bytes : List ℕ) → Contains old bytes → Contains new bytes

-- a path lies in one of these directories, or is one
abbrev pub IsClosed : List (List ℕ) → List ℕ → Type 0
IsClosed closed path = (dir : List ℕ) × Contains closed dir × IsTrue (lies_in path dir)

-- a call that only looks: running jobs may write their targets meanwhile
pub record Asks (old new : Around) : Type 0 where
  pub files : (path : List ℕ) → (IsRunningTarget old.running path → ⊥) → new.tree path ≡ old.tree path
  pub stamps : (path : List ℕ) → (IsRunningTarget old.running path → ⊥) → new.stamps path ≡ old.stamps path
  pub dirs : (dir : List ℕ) → new.dirs dir ≡ old.dirs dir
  pub running : new.running ≡ old.running
  pub log : new.log ≡ old.log
  pub met : new.met ≡ old.met
  pub law : new.law ≡ old.law
  pub top : new.top ≡ old.top

-- a directory is made: it stands, and so do all above it
pub record MakesDir (made : List ℕ) (old new : Around) : Type 0 where
  pub dirs : (dir : List ℕ) → new.dirs dir ≡ (lies_in made dir || old.dirs dir)
  pub files : (path : List ℕ) → (IsRunningTarget old.running path → ⊥) → new.tree path ≡ old.tree path
  pub stamps : (path : List ℕ) → (IsRunningTarget old.running path → ⊥) → new.stamps path ≡ old.stamps path
  pub running : new.running ≡ old.running
  pub log : new.log ≡ old.log
  pub met : new.met ≡ old.met
  pub law : new.law ≡ old.law
  pub top : new.top ≡ old.top

-- a removal, done or refused: the file is there whole or not at all
pub record Removes (path : List ℕ) (old new : Around) : Type 0 where
  pub file : (new.tree path ≡ old.tree path) ⊎ (new.tree path ≡ None)
  pub others : (other : List ℕ) → other ≢ path → (IsRunningTarget old.running other → ⊥) → new.tree other ≡ old.tree other
  pub stamps : (other : List ℕ) → other ≢ path → (IsRunningTarget old.running other → ⊥) → new.stamps other ≡ old.stamps other
  pub dirs : (dir : List ℕ) → new.dirs dir ≡ old.dirs dir
  pub running : new.running ≡ old.running
  pub log : new.log ≡ old.log
  pub met : new.met ≡ old.met
  pub law : new.law ≡ old.law
  pub top : new.top ≡ old.top

-- a job may start: its id is free, it and the running jobs keep apart, and none of its targets is a file
pub record CanStart (job : Job) (around : Around) : Type 0 where
  pub new_id : (run : Running) → Contains around.running run → run.job.id ≢ job.id
  pub own_targets : (run : Running) (path : List ℕ) → Contains around.running run → Contains job.targets path → (Contains run.job.targets path → ⊥) × (Contains run.job.deps path → ⊥)
  pub settled : (run : Running) (path : List ℕ) → Contains around.running run → Contains job.deps path → Contains run.job.targets path → ⊥
  pub clear : (path : List ℕ) → Contains job.targets path → around.tree path ≡ None

-- none of a job's paths lies in a closed directory
pub record IsOpen (closed : List (List ℕ)) (job : Job) : Type 0 where
  pub targets : (path : List ℕ) → Contains job.targets path → IsClosed closed path → ⊥
  pub deps : (path : List ℕ) → Contains job.deps path → IsClosed closed path → ⊥

-- no directory goes, and those that come stand above a target of the job
abbrev pub GainsDirs : Job → (List ℕ → Bool) → (List ℕ → Bool) → Type 0
GainsDirs job old new = (dir : List ℕ) → (new dir ≡ old dir) ⊎ ((new dir ≡ true) × (target : List ℕ) × Contains job.targets target × IsTrue (is_below target dir))

-- a start: the job runs, given what its dependencies hold, and the log has it with the counts before the call
pub record Starts (job : Job) (counts : Counts) (old new : Around) : Type 0 where
  pub files : (path : List ℕ) → (IsRunningTarget old.running path → ⊥) → (Contains job.targets path → ⊥) → new.tree path ≡ old.tree path
  pub stamps : (path : List ℕ) → (IsRunningTarget old.running path → ⊥) → (Contains job.targets path → ⊥) → new.stamps path ≡ old.stamps path
  pub dirs : GainsDirs job old.dirs new.dirs
  pub running : new.running ≡ old.running ++ record { job = job; given = given_of old.tree job.deps } ∷ []
  pub log : new.log ≡ old.log ++ Started job counts ∷ []
  pub met : new.met ≡ old.met
  pub law : new.law ≡ old.law
  pub top : new.top ≡ old.top

-- what stands at a target of the job
abbrev pub IsMade : Job → Tree → List ℕ → Type 0
IsMade job tree bytes = (path : List ℕ) × Contains job.targets path × (tree path ≡ Some bytes)

-- an ending: one job, whichever, runs no more. Where it is done, and the world is sure, its targets are what it makes.
-- What is met by it is what stands at its targets, and nothing else.
pub record Ends (sure : Type 0) (ended : Ended) (old new : Around) : Type 0 where
  pub front : List Running
  pub which : Running
  pub back : List Running
  pub was : old.running ≡ front ++ which ∷ back
  pub running : new.running ≡ front ++ back
  pub id : ended.id ≡ which.job.id
  pub files : (path : List ℕ) → (IsRunningTarget old.running path → ⊥) → new.tree path ≡ old.tree path
  pub stamps : (path : List ℕ) → (IsRunningTarget old.running path → ⊥) → new.stamps path ≡ old.stamps path
  pub dirs : GainsDirs which.job old.dirs new.dirs
  pub made : sure → ended.outcome ≡ Done → (path : List ℕ) → Contains which.job.targets path → new.tree path ≡ act old.law which.job.work which.job.signed which.job.targets which.given path
  pub log : new.log ≡ old.log ++ Finished ended.id ended.outcome ∷ []
  pub met : Grows old.met new.met
  pub met_only : (bytes : List ℕ) → Contains new.met bytes → Contains old.met bytes ⊎ IsMade which.job new.tree bytes
  pub law : new.law ≡ old.law
  pub top : new.top ≡ old.top
