use Rattle.std.proofs.Common.{◌≡◌, ◌∙◌, subst, List, ℕ, Some, cond}
use Rattle.std.specs.Str.{bytes_eq}
use Rattle.world_mem.proofs.Keys.{updated_at}
use Rattle.world_mem.specs.InSlots.{slot_at}
use Rattle.world_mem.proofs.slots.Slots.put.Goals as goal

pub returns-clause-ok : goal.returns-clause-ok
returns-clause-ok c = λ other.
    let bytes : c.in_ok-key.key.items ≡ c.args.path.now = c.in_ok-key.ensures.items ∙ c.as_bytes.ensures.value ∙ c.as_str.ensures in
    subst (λ (at : List ℕ). slot_at (record { slots = c.insert.new.self }) other ≡ cond (bytes_eq at other) (Some c.args.slot) (slot_at c.args.self.now other)) bytes
    (updated_at c.in_ok-key.key.items c.args.self.now.slots c.insert.new.self (Some c.args.slot) c.in_ok-insert.ensures.updates other)
