use Rattle.std.proofs.Common.{◌≡◌, ◌∙◌, sym, subst, inl, inr, true, false}
use Rattle.world_mem.specs.AsAround.{around_of}
use Rattle.world_mem.specs.Blocked.{IsTaken, IsInTheWay}
use Rattle.world_mem.specs.InSlots.{Stands}
use Rattle.world_mem.proofs.Below.{above_weaker}
use Rattle.world_mem.proofs.Taken.{taken, stands}
use Rattle.world_mem.proofs.state.State.is_taken.Goals as goal

pub returns-then-stands : goal.returns-then-stands
returns-then-stands c =
    let state = c.args.self.now in
    let bytes : c.as_bytes-bytes.result.now ≡ c.args.path.now = c.as_bytes-bytes.ensures.value ∙ c.as_str.ensures in
    (λ _. subst (IsInTheWay (around_of state)) bytes (inl (taken state c.as_bytes-bytes.result.now (sym c.stands.ensures ∙ c.if-stands.true))), λ _. c.if-stands.true)

pub returns-else-stands : goal.returns-else-stands
returns-else-stands c =
    let state = c.args.self.now in
    let at = c.as_bytes-bytes.result.now in
    let bytes : at ≡ c.args.path.now = c.as_bytes-bytes.ensures.value ∙ c.as_str.ensures in (
      λ y. subst (IsInTheWay (around_of state)) bytes (inr (above_weaker (Stands state.slots) (IsTaken (around_of state)) at (taken state) (c.stands_above.ensures.0 y))),
      λ h. elim (subst (IsInTheWay (around_of state)) (sym bytes) h) [
        | inl here ↦ absurd (let x : true ≡ false = sym (stands state at here) ∙ sym c.stands.ensures ∙ c.if-stands.false in cc x)
        | inr above ↦ c.stands_above.ensures.1 (above_weaker (IsTaken (around_of state)) (Stands state.slots) at (stands state) above)
      ],
    )
