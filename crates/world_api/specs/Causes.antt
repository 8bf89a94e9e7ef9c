-- When a count rises, and that none falls.
use Rattle.std.specs.Prelude.{◌≡◌, ◌≤◌}
use Rattle.scons_base.specs.Rising.{Rose}
use Rattle.world_api.specs.Counts.{Counts}
use Rattle.world_api.specs.declared.job.Outcome.{Outcome}
use Rattle.world_api.specs.declared.job.Outcome.TheVariants.{Done, Failed, Broken, NoMemory}

-- no count fell
pub record Later (old new : Counts) : Type 0 where
  pub disk : old.disk_faults ≤ new.disk_faults
  pub tree : old.tree_faults ≤ new.tree_faults
  pub start : old.start_faults ≤ new.start_faults
  pub action : old.action_failures ≤ new.action_failures

-- a bank was at fault, and nothing else
pub record DiskFails (old new : Counts) : Type 0 where
  pub rose : Rose old.disk_faults new.disk_faults
  pub tree : new.tree_faults ≡ old.tree_faults
  pub start : new.start_faults ≡ old.start_faults
  pub action : new.action_failures ≡ old.action_failures

-- the tree was at fault, and nothing else
pub record TreeFails (old new : Counts) : Type 0 where
  pub disk : new.disk_faults ≡ old.disk_faults
  pub rose : Rose old.tree_faults new.tree_faults
  pub start : new.start_faults ≡ old.start_faults
  pub action : new.action_failures ≡ old.action_failures

-- a start or the running of a job was at fault, and nothing else
pub record StartFails (old new : Counts) : Type 0 where
  pub disk : new.disk_faults ≡ old.disk_faults
  pub tree : new.tree_faults ≡ old.tree_faults
  pub rose : Rose old.start_faults new.start_faults
  pub action : new.action_failures ≡ old.action_failures

-- an action failed, and nothing was at fault
pub record ActionFails (old new : Counts) : Type 0 where
  pub disk : new.disk_faults ≡ old.disk_faults
  pub tree : new.tree_faults ≡ old.tree_faults
  pub start : new.start_faults ≡ old.start_faults
  pub rose : Rose old.action_failures new.action_failures

-- an ending counts as what it says
abbrev pub HasOutcomeCause : Outcome → Counts → Counts → Type 0
HasOutcomeCause Done old new = new ≡ old
HasOutcomeCause (Failed code) old new = ActionFails old new
HasOutcomeCause Broken old new = StartFails old new
HasOutcomeCause NoMemory old new = new ≡ old
