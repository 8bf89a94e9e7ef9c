-- What a wait of a world on threads ends: one of the jobs that run; which one is left to the threads.
use Rattle.std.specs.Prelude.{◌≡◌, ◌≢◌, ◌++◌, ℕ, List, None, Contains}
use Rattle.std.specs.List.{remove, slice_index_or}
use Rattle.world_api.specs.Around.{Running}
use Rattle.world_api.specs.declared.job.Ended.{Ended}
use Rattle.world_api.specs.declared.job.Outcome.TheVariants.{Done, NoMemory}
use Rattle.world_mem.specs.AsAround.{around_of}
use Rattle.world_mem.specs.Stamps.{Stamps}
use Rattle.world_mem.specs.Waits.{row_ending, row_contents}
use Rattle.world_mem.specs.declared.world.MemWorld.{MemWorld}

-- The job at this place among those that ran ends as the table says, or for want of memory. Where it is done, what it made has been
-- met from then on; where not, nothing stands at its targets. What it left there has the next stamp.
pub record EndsOne (ended : Ended) (old new : MemWorld) : Type 0 where
  pub place : ℕ
  pub run : Running
  pub which : (d : Running) → slice_index_or (around_of old.state).running place d ≡ run
  pub id : ended.id ≡ run.job.id
  pub outcome : ended.outcome ≢ NoMemory → ended.outcome ≡ row_ending old run
  pub rest : (around_of new.state).running ≡ remove (around_of old.state).running place
  pub absent : ended.outcome ≢ Done → (path : List ℕ) → Contains run.job.targets path → (around_of new.state).tree path ≡ None
  pub met : ended.outcome ≡ Done → (around_of new.state).met ≡ (around_of old.state).met ++ row_contents old run
  pub stamps : Stamps (Contains run.job.targets) old.state new.state
  pub unmet : ended.outcome ≢ Done → (around_of new.state).met ≡ (around_of old.state).met
