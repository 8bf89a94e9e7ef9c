use Rattle.std.proofs.Common.{◌≡◌, ℕ, ◌<◌, get_or, take, false}
use Rattle.world_mem.specs.InSlots.{slot_at, holds_live}
use Rattle.world_mem.proofs.slots.Slots.stands_above.Given as goal

abbrev pub invariant-loop-place : goal.invariant-loop-place
invariant-loop-place l = (k : ℕ) → k < l.place → get_or l.path k 0 ≡ 47 → holds_live (slot_at l.self (take k l.path)) ≡ false
