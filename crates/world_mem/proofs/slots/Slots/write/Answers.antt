use Rattle.std.proofs.Common.{rules, ◌≡◌, ◌∙◌, sym, subst, List, ℕ, Some}
use Rattle.world_mem.proofs.Keys.{updated_at}
use Rattle.world_mem.proofs.Written.{written_at}
use Rattle.world_mem.specs.InSlots.{slot_at, written}
use Rattle.world_mem.proofs.slots.Slots.write.Goals as goal

pub returns-in-Some : goal.returns-in-Some
returns-in-Some c = λ other.
    let bytes : c.as_bytes.result.now ≡ c.args.path.now = c.as_bytes.ensures.value ∙ c.as_str.ensures in
    subst (λ (at : List ℕ). slot_at (record { slots = c.get_mut.follows.lender c.args.slot }) other ≡ written at c.args.slot other (slot_at c.args.self.now other)) bytes
    (updated_at c.as_bytes.result.now c.args.self.now.slots (c.get_mut.follows.lender c.args.slot) (Some c.args.slot) ((c.get_mut.follows.holds c.args.slot).3 (search rules)) other
    ∙ written_at (slot_at c.args.self.now) c.as_bytes.result.now other c.args.slot c.in-Some.place.now (sym c.in-Some.ensures.value))
