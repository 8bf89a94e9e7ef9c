-- What is so over any number of calls that only look at a world.
use Rattle.std.specs.Prelude.{◌≡◌, ◌≤◌, ◌⊎◌, ℕ}
use Rattle.world_api.specs.Around.{Around}
use Rattle.world_api.specs.Banks.{Banks}
use Rattle.world_api.specs.Calls.{Asks}
use Rattle.world_api.specs.Counts.{Counts}
use Rattle.world_api.specs.Meaning.{Meaning, IsImage, Told, Recalls, BanksKept}

-- no fault but those of the file tree was counted
pub record IsTreeAlone (old new : Counts) : Type 0 where
  pub disk : new.disk_faults ≡ old.disk_faults
  pub tree : old.tree_faults ≤ new.tree_faults
  pub start : new.start_faults ≡ old.start_faults
  pub action : new.action_failures ≡ old.action_failures

-- each moment since the old state is one that was told then already, or it is as the old state but for what running jobs
-- write meanwhile
unfoldable pub IsSince : {W : Type 0} → Meaning W → W → W → Type 0
IsSince m old new = (time : ℕ) (around : Around) (banks : Banks) → m.left_since new time around banks
    → m.left_since old time around banks ⊎ (Asks (m.around old) around × IsImage m old banks)

-- the world was looked at: its files and banks are as they were, and were so at every moment
pub record Looks {W : Type 0} (m : Meaning W) (old new : W) : Type 0 where
  pub told : Told m old new
  pub recalls : Recalls m old new
  pub around : m.tells new → Asks (m.around old) (m.around new)
  pub banks : m.tells new → BanksKept m old new
  pub before : m.tells new → IsSince m old new

-- only its files were looked at: no fault but those of the file tree was counted
pub record LooksAtFiles {W : Type 0} (m : Meaning W) (old new : W) : Type 0 where
  pub looks : Looks m old new
  pub counts : IsTreeAlone (m.counts old) (m.counts new)
