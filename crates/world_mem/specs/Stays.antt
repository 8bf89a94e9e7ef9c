-- What a world in memory remembers: all that it said before, or no moment but the present one.
use Rattle.std.specs.Prelude.{◌≡◌, ℕ}
use Rattle.world_api.specs.Around.{Around}
use Rattle.world_api.specs.Banks.{Banks}
use Rattle.world_api.specs.Meaning.{IsImage}
use Rattle.world_mem.specs.Means.{machine_of, world_meaning}
use Rattle.world_mem.specs.declared.world.MemWorld.{MemWorld}

-- what is around, the banks and all their moments are as they were, and so are the counts, the calls, the orders, the
-- table, the stamp, and how many removals are recorded
pub record Stays (old new : MemWorld) : Type 0 where
  pub machine : machine_of new ≡ machine_of old
  pub banks : new.banks ≡ old.banks
  pub turns : new.turns ≡ old.turns
  pub horizon : new.horizon ≡ old.horizon
  pub faults : new.faults ≡ old.faults
  pub calls : new.calls ≡ old.calls
  pub orders : new.orders ≡ old.orders
  pub table : new.state.table ≡ old.state.table
  pub stamp : new.state.stamp ≡ old.state.stamp
  pub removals : new.state.removals ≡ old.state.removals

-- the record of moments has begun anew
abbrev pub IsAnew : MemWorld → Type 0
IsAnew world = (time : ℕ) (around : Around) (banks : Banks) → world_meaning.left_since world time around banks
    → (around ≡ world_meaning.around world) × IsImage world_meaning world banks
