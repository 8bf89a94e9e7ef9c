-- Stamps: they count up by one with each edit and each ending, and stay at the greatest number of 64 bits.
use Rattle.std.specs.Prelude.{◌≡◌, ℕ, List, IsSome, Contains}
use Rattle.world_api.specs.Around.{Running}
use Rattle.world_mem.specs.AsAround.{around_of}
use Rattle.world_mem.specs.CallCounts.{next}
use Rattle.world_mem.specs.Runs.{run_at}
use Rattle.world_mem.specs.declared.state.State.{State}

-- one edit or ending more: each file that it left at one of these paths has its stamp
pub record Stamps (written : List ℕ → Type 0) (old new : State) : Type 0 where
  pub counted : new.stamp ≡ next old.stamp
  pub stamped : (path : List ℕ) → written path → IsSome ((around_of new).tree path)
      → (around_of new).stamps path ≡ new.stamp

-- the ending of the job that runs at a place (some job runs there, so the job `d` is never it) stamps what it left
abbrev pub StampsRun : ℕ → State → State → Type 0
StampsRun place old new = (d : Running) → Stamps (Contains (run_at (around_of old) place d).job.targets) old new
