use Rattle.std.proofs.Common.{rules, ◌≡◌, ◌∙◌, ap, subst, List, ℕ, Some}
use Rattle.world_mem.proofs.Keys.{updated_at}
use Rattle.world_mem.proofs.Written.{taken_at}
use Rattle.world_mem.specs.InSlots.{slot_at, taken, emptied}
use Rattle.world_mem.proofs.slots.Slots.take.Goals as goal

pub returns-in-Some-clause-slots : goal.returns-in-Some-clause-slots
returns-in-Some-clause-slots c = λ other.
    let at = c.as_bytes.result.now in
    let new = c.emptied.new.place in
    let bytes : at ≡ c.args.path.now = c.as_bytes.ensures.value ∙ c.as_str.ensures in
    subst (λ (p : List ℕ). slot_at (record { slots = c.get_mut.follows.lender new }) other ≡ taken p other (slot_at c.args.self.now other)) bytes
    (updated_at at c.args.self.now.slots (c.get_mut.follows.lender new) (Some new) ((c.get_mut.follows.holds new).3 (search rules)) other
    ∙ taken_at (slot_at c.args.self.now) at other new (c.emptied.ensures.slot ∙ ap emptied c.in-Some.ensures.value))
