-- The world at one moment, as a build sees it: all but the signature banks.
use Rattle.std.specs.Prelude.{ℕ, Bool, List, [], ◌∷◌, Contains, map}
use Rattle.world_api.specs.declared.job.Job.{Job}
use Rattle.world_api.specs.declared.job.Outcome.{Outcome}
use Rattle.world_api.specs.Act.{Content, Given, Law}
use Rattle.world_api.specs.Counts.{Counts}

-- the files: paths to contents
abbrev pub Tree : Type 0
Tree = List ℕ → Content

-- a job that has started and not ended, with what its dependencies held at its start
pub record Running : Type 0 where
  pub job : Job
  pub given : Given

-- what happened: a start, with the counts at that moment, or the ending of the job with this id
pub data Entry : Type 0 where
  Started : Job → Counts → Entry
  Finished : ℕ → Outcome → Entry

pub record Around : Type 0 where
  pub tree : Tree
  -- whether a directory stands
  pub dirs : List ℕ → Bool
  -- when a file last changed, in nanoseconds; of a path that is no file it says nothing
  pub stamps : List ℕ → ℕ
  pub running : List Running
  pub log : List Entry
  -- every content that the tree has held outside the targets of running jobs
  pub met : List (List ℕ)
  pub law : Law
  -- the absolute path of the top directory
  pub top : List ℕ

-- the jobs of a log, in the order of their starts
abbrev pub started_of : List Entry → List Job
started_of [] = []
started_of (Started job counts ∷ log) = job ∷ started_of log
started_of (Finished id outcome ∷ log) = started_of log

-- what these paths hold
abbrev pub given_of : Tree → List (List ℕ) → Given
given_of tree paths = map (λ path. (path, tree path)) paths

abbrev pub IsRunningTarget : List Running → List ℕ → Type 0
IsRunningTarget running path = (run : Running) × Contains running run × Contains run.job.targets path

-- no running job makes the path or reads it
abbrev pub IsUnused : List Running → List ℕ → Type 0
IsUnused running path = (run : Running) → Contains running run → (Contains run.job.targets path → ⊥) × (Contains run.job.deps path → ⊥)
