use Rattle.std.proofs.Common.{◌≡◌, ◌++◌}
use Rattle.world_mem.proofs.Listing.{names_in}
use Rattle.world_mem.proofs.slots.Slots.list.Given as goal

abbrev pub invariant-loop-slot : goal.invariant-loop-slot
invariant-loop-slot l = l.paths ++ names_in l.dir l.slot-iterator ≡ names_in l.dir l.self.slots.entries
