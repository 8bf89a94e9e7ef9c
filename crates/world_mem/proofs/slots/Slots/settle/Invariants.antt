use Rattle.std.proofs.Common.{◌≡◌, ℕ, List, vec_len}
use Rattle.world_mem.specs.InSlots.{slot_at, settled}
use Rattle.world_mem.proofs.slots.Slots.settle.Given as goal

abbrev pub invariant-loop-path : goal.invariant-loop-path
invariant-loop-path l = (path : List ℕ) → settled l.stamp l.made.items path (slot_at l.self path) ≡ settled l.stamp l.initial.made.items path (slot_at l.initial.self path)

abbrev pub decreases-loop-path : goal.decreases-loop-path
decreases-loop-path l = vec_len l.made
