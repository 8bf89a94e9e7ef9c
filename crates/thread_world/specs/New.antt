-- A world in memory in which nothing has run yet, and what a change by hand leaves of one.
use Rattle.std.specs.Prelude.{◌≡◌, ◌↔◌, ◌⊎◌, ℕ, List, [], None, IsTrue, map}
use Rattle.world_api.specs.declared.disk.Bank.{Bank}
use Rattle.world_mem.specs.AsAround.{around_of}
use Rattle.world_mem.specs.Blocked.{HasBelow, HasFile}
use Rattle.world_mem.specs.CallCounts.{count_of}
use Rattle.world_mem.specs.InSlots.{file_at}
use Rattle.world_mem.specs.Kept.{counts_of}
use Rattle.world_mem.specs.Means.{world_meaning}
use Rattle.world_mem.specs.Standing.{is_always}
use Rattle.world_mem.specs.Table.{law_of}
use Rattle.world_mem.specs.declared.calls.Call.{Call}
use Rattle.act_table.specs.declared.table.ActRow.{ActRow}
use Rattle.world_mem.specs.declared.world.MemWorld.{MemWorld}

-- these files stand and the directories above them, the banks are empty, nothing has failed or was called, and no call is to fail
pub record IsNew (files : List (List ℕ × List ℕ)) (rows : List ActRow) (world : MemWorld) : Type 0 where
  pub tree : (path : List ℕ) → (around_of world.state).tree path ≡ file_at files path
  pub dirs : (dir : List ℕ) → IsTrue ((around_of world.state).dirs dir) ↔ (IsTrue (is_always dir) ⊎ HasBelow (HasFile files) dir)
  pub running : (around_of world.state).running ≡ []
  pub log : (around_of world.state).log ≡ []
  pub met : (around_of world.state).met ≡ map (λ file. file.1) files
  pub law : (around_of world.state).law ≡ law_of rows
  pub table : world.state.table ≡ rows
  pub seen : (bank : Bank) → world_meaning.seen world bank ≡ []
  pub clock : world_meaning.clock world ≡ 0
  pub counts : counts_of world.faults ≡ record { disk_faults = 0; tree_faults = 0; start_faults = 0; action_failures = 0 }
  pub calls : (call : Call) → count_of call world.calls ≡ 0
  pub stamp : world.state.stamp ≡ 0
  pub stamps : (path : List ℕ) → (around_of world.state).stamps path ≡ 0
  pub failing : world.calls.failing.items ≡ []
  pub unfused : world.calls.fuse ≡ None

-- a change by hand leaves the banks, the table, the counts and the calls, and takes no time
pub record ByHand (old new : MemWorld) : Type 0 where
  pub banks : new.banks ≡ old.banks
  pub table : new.state.table ≡ old.state.table
  pub faults : new.faults ≡ old.faults
  pub calls : new.calls ≡ old.calls
  pub clock : world_meaning.clock new ≡ world_meaning.clock old
