use Rattle.std.proofs.Common.{◌≡◌, take}
use Rattle.world_api.specs.Around.{given_of}
use Rattle.world_mem.specs.InSlots.{slot_at, content_of}
use Rattle.world_mem.proofs.plan.given_of.Given as goal

abbrev pub invariant-loop-path : goal.invariant-loop-path
invariant-loop-path l = l.given ≡ given_of (λ path. content_of (slot_at l.slots path)) (take l.path-index l.path-items)
