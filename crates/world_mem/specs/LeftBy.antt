-- What a stop leaves, by its pick.
use Rattle.std.specs.Prelude.{◌≡◌, ℕ, List}
use Rattle.mem_banks.specs.Past.{Store, one_of, synced_in}
use Rattle.mem_banks.specs.Picks.{left_of}
use Rattle.world_api.specs.Act.{Given}
use Rattle.world_api.specs.Banks.{Banks}
use Rattle.world_api.specs.declared.disk.Bank.{Bank}
use Rattle.world_mem.specs.AsAround.{around_of}
use Rattle.world_mem.specs.Left.{Leaves, left_over, makings}
use Rattle.world_mem.specs.declared.state.State.{State}
use Rattle.world_mem.specs.declared.stop.Left.{Left}

-- at each target of a job that runs one of the outcomes that it may have, the first by the pick
abbrev pub outcomes_of : ℕ → State → Given
outcomes_of pick state = left_over pick (makings state.table (around_of state).running)

-- these outcomes, and all else as it was
abbrev pub LeavesBy : ℕ → State → State → Type 0
LeavesBy pick old new = Leaves (outcomes_of pick old) (around_of old) (around_of new)

-- the banks that are left
abbrev pub banks_of : Left → Banks
banks_of left bank = one_of bank left.a.items left.b.items

-- banks are what a store leaves by a pick
abbrev pub AreLeft : ℕ → Store → Banks → Type 0
AreLeft pick store banks = (bank : Bank) → banks bank ≡ left_of pick store bank

-- banks are as the last sync of each left them
abbrev pub AreSynced : Store → Banks → Type 0
AreSynced store banks = (bank : Bank) → banks bank ≡ synced_in store bank
