-- What a build has started to make and not made, by what its log went on with.
use Rattle.std.specs.Prelude.{◌≡◌, ◌++◌, ℕ, List, Option, None, Contains}
use Rattle.world_api.specs.Around.{Entry, Started, Finished}
use Rattle.world_api.specs.Counts.{Counts}
use Rattle.world_api.specs.declared.job.Job.{Job}
use Rattle.world_api.specs.declared.job.Outcome.TheVariants.{Done}
use Rattle.deciders.specs.declared.recorded.Rec.{Rec}
use Rattle.build_model.specs.Rules.{Path, Among}

-- By these entries a job that makes this path has started and hasn't ended well: it runs still, its action failed, it couldn't be
-- run, or memory was wanting for it.
pub record IsUnmade (path : Path) (entries : List Entry) : Type 0 where
  pub job : Job
  pub counts : Counts
  pub started : Among (Started job counts) entries
  pub makes : Contains job.targets path
  pub undone : Among (Finished job.id Done) entries → ⊥

-- no record is found for a path that is unmade
abbrev pub HasNoneUnmade : Path → Option Rec → List Entry → Type 0
HasNoneUnmade path found entries = IsUnmade path entries → found ≡ None

-- a path isn't unmade
abbrev pub IsNotUnmade : Path → List Entry → Type 0
IsNotUnmade path entries = IsUnmade path entries → ⊥

-- the jobs that started to make a path have this id
abbrev pub HasOneMaker : Path → ℕ → List Entry → Type 0
HasOneMaker path id entries = (job : Job) (counts : Counts) → Among (Started job counts) entries → Contains job.targets path → job.id ≡ id

-- no job has started to make it
abbrev pub HasNoMaker : Path → List Entry → Type 0
HasNoMaker path entries = (job : Job) (counts : Counts) → Among (Started job counts) entries → Contains job.targets path → ⊥

-- since then a log went on with entries of which this is so
pub record Since (start log : List Entry) (IsSo : List Entry → Type 0) : Type 0 where
  pub entries : List Entry
  pub grown : log ≡ start ++ entries
  pub so : IsSo entries
