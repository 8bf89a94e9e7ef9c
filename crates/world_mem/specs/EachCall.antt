-- What is so of each call of a world in memory, whatever it answers.
use Rattle.std.specs.Prelude.{◌≡◌, ◌+◌, ◌&&◌, not, ℕ, List, if◌then◌else◌}
use Rattle.std.specs.Option.{is_some}
use Rattle.world_api.specs.Around.{Around}
use Rattle.world_api.specs.Counts.{Counts}
use Rattle.world_mem.specs.AsAround.{around_of}
use Rattle.world_mem.specs.CallCounts.{counted}
use Rattle.world_mem.specs.Kept.{counts_of, disk_fault, tree_fault}
use Rattle.world_mem.specs.declared.calls.Call.{Call}
use Rattle.world_mem.specs.declared.calls.Call.TheVariants.{Remove}
use Rattle.world_mem.specs.declared.world.MemWorld.{MemWorld}

-- what no start and no ending changes: the banks, the table, the orders, and how many removals are recorded
pub record Keeps (old new : MemWorld) : Type 0 where
  pub banks : new.banks ≡ old.banks
  pub table : new.state.table ≡ old.state.table
  pub orders : new.orders ≡ old.orders
  pub removals : new.state.removals ≡ old.state.removals

-- a call that only looks: what stands, what is remembered and the banks are as they were
pub record Looks (old new : MemWorld) : Type 0 where
  pub state : new.state ≡ old.state
  pub banks : new.banks ≡ old.banks
  pub turns : new.turns ≡ old.turns
  pub horizon : new.horizon ≡ old.horizon

-- a call of a disk: it is counted, and so is one fault where it is refused; nothing around is another
pub record DiskCall (call : Call) (refused : Type 0) (old new : MemWorld) : Type 0 where
  pub counted : new.calls ≡ counted call old.calls
  pub once : refused → counts_of new.faults ≡ disk_fault (counts_of old.faults)
  pub state : new.state ≡ old.state
  pub orders : new.orders ≡ old.orders

-- a call of a tree that ends no job and removes no file: it is counted, and so is one fault of its kind where it is
-- refused; stamps stay, and no removal is recorded
pub record TreeCall (call : Call) (fault : Counts → Counts) (refused : Type 0) (old new : MemWorld) : Type 0 where
  pub counted : new.calls ≡ counted call old.calls
  pub once : refused → counts_of new.faults ≡ fault (counts_of old.faults)
  pub banks : new.banks ≡ old.banks
  pub table : new.state.table ≡ old.state.table
  pub orders : new.orders ≡ old.orders
  pub stamp : new.state.stamp ≡ old.state.stamp
  pub removals : new.state.removals ≡ old.state.removals

-- how many files went from a path: one, or none
abbrev pub went : List ℕ → Around → Around → ℕ
went path old new = if is_some (old.tree path) && not (is_some (new.tree path)) then 1 else 0

-- a removal is recorded where the file went, and only there
abbrev pub RecordsRemoval : List ℕ → MemWorld → MemWorld → Type 0
RecordsRemoval path old new =
    new.state.removals ≡ old.state.removals + went path (around_of old.state) (around_of new.state)

-- a call that removes a file: the same, but for what is recorded
pub record RemoveCall (refused : Type 0) (old new : MemWorld) : Type 0 where
  pub counted : new.calls ≡ counted Remove old.calls
  pub once : refused → counts_of new.faults ≡ tree_fault (counts_of old.faults)
  pub banks : new.banks ≡ old.banks
  pub table : new.state.table ≡ old.state.table
  pub orders : new.orders ≡ old.orders
  pub stamp : new.state.stamp ≡ old.state.stamp
