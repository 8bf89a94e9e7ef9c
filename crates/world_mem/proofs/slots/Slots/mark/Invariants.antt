use Rattle.std.proofs.Common.{◌≡◌, ℕ, List, drop}
use Rattle.world_mem.specs.InSlots.{slot_at, marked}
use Rattle.world_mem.specs.declared.slots.Slot.TheVariants.{Running}
use Rattle.world_mem.proofs.slots.Slots.mark.Given as goal

abbrev pub invariant-loop-target : goal.invariant-loop-target
invariant-loop-target l = (path : List ℕ) → marked (drop l.target-index l.target-items) (Running l.id) path (slot_at l.self path) ≡ marked l.target-items (Running l.id) path (slot_at l.initial.self path)
