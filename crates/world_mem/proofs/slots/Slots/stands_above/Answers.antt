use Rattle.std.proofs.Common.{◌∙◌, ℕ, List, sym, ap, arith, length, take, refl}
use Rattle.world_mem.proofs.Below.{above, above_at}
use Rattle.world_mem.specs.InSlots.{slot_at, holds_live}
use Rattle.world_mem.proofs.slots.Slots.stands_above.Goals as goal

pub returns-then-stands : goal.returns-then-stands
returns-then-stands c =
    let path = c.args.path.now in
    let place = c.loop-place.place in
    (λ _. (take place path, sym c.stands.ensures ∙ c.if-stands.true, above path place c.loop-place-test.true c.if-byte-eq47.true), λ _. refl)

pub returns : goal.returns
returns c = (
  λ e. absurd (cc e),
  λ h.
      let at = above_at c.args.path.now h.0 h.2 in
      sym (c.loop-place.invariant (length h.0) (omega (arith, at.0)) at.1) ∙ ap (λ (path : List ℕ). holds_live (slot_at c.args.self.now path)) at.2 ∙ h.1,
)
