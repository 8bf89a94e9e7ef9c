use Rattle.std.proofs.Common.{◌≡◌, ◌∙◌, ◌↔◌, ℕ, List, IsTrue, subst}
use Rattle.world_mem.proofs.Below.{blocked_if}
use Rattle.world_mem.specs.Blocked.{IsBlocked}
use Rattle.world_mem.specs.InSlots.{Stands}
use Rattle.world_mem.proofs.slots.Slots.is_blocked.Goals as goal

pub returns-in_ok-stands_below : goal.returns-in_ok-stands_below
returns-in_ok-stands_below c =
    let slots = c.args.self.now in
    let bytes : c.as_bytes-bytes.result.now ≡ c.args.path.now = c.as_bytes-bytes.ensures.value ∙ c.as_str.ensures in
    subst (λ (path : List ℕ). IsTrue c.in_ok-stands_below.field-0 ↔ IsBlocked (Stands slots) path) bytes
    (blocked_if (Stands slots) c.as_bytes-bytes.result.now c.stands_above.result c.in_ok-stands_below.field-0 c.stands_above.ensures c.if-stands_above.false c.in_ok-stands_below.ensures)
