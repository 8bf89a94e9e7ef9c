use Rattle.std.proofs.Common.{rules, ◌≡◌, ◌∙◌, sym, subst, List, ℕ, Option, Some}
use Rattle.world_mem.proofs.Keys.{updated_at}
use Rattle.world_mem.proofs.Written.{written_at}
use Rattle.world_mem.specs.InSlots.{slot_at, written}
use Rattle.world_mem.specs.declared.slots.File.{File}
use Rattle.world_mem.specs.declared.slots.Slot.TheVariants.{Settled}
use Rattle.world_mem.proofs.slots.Slots.settle_one.Goals as goal

pub returns-in-Some : goal.returns-in-Some
returns-in-Some c = λ other.
    let slot = Settled c.file_with.result in
    let bytes : c.as_bytes.result.now ≡ c.args.path = c.as_bytes.ensures.value ∙ c.as_str.ensures in
    let put : slot_at (record { slots = c.get_mut.follows.lender slot }) other ≡ written c.args.path slot other (slot_at c.args.self.now other) =
    subst (λ (at : List ℕ). slot_at (record { slots = c.get_mut.follows.lender slot }) other ≡ written at slot other (slot_at c.args.self.now other)) bytes
    (updated_at c.as_bytes.result.now c.args.self.now.slots (c.get_mut.follows.lender slot) (Some slot) ((c.get_mut.follows.holds slot).3 (search rules)) other
    ∙ written_at (slot_at c.args.self.now) c.as_bytes.result.now other slot c.in-Some.place.now (sym c.in-Some.ensures.value)) in
    subst (λ (file : Option File). slot_at (record { slots = c.get_mut.follows.lender slot }) other ≡ written c.args.path (Settled file) other (slot_at c.args.self.now other)) c.file_with.ensures put
