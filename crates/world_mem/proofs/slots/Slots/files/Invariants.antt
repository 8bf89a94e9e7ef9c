use Rattle.std.proofs.Common.{◌≡◌, ◌++◌}
use Rattle.world_mem.proofs.FilesOf.{files_in}
use Rattle.world_mem.proofs.slots.Slots.files.Given as goal

abbrev pub invariant-loop-slot : goal.invariant-loop-slot
invariant-loop-slot l = l.files ++ files_in l.slot-iterator ≡ files_in l.self.slots.entries
