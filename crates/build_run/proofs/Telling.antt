-- What a plan and an account are told.
use Rattle.std.proofs.Common.{◌≡◌, Bool, true, false, ◌||◌, ap, refl, ◌∙◌}
use Rattle.build_model.proofs.Lists.{true_false}
use Rattle.task_plan.specs.Plans.{is_halt, is_scan}
use Rattle.task_plan.specs.declared.want.PlanEvent.{PlanEvent}

-- an event that was taken halts a plan only where it is a halt
pub took : (halted : Bool) (event : PlanEvent) (new : Bool) → new ≡ (halted || (is_halt event || false)) → new ≡ (halted || is_halt event)
took halted event new e = e ∙ ap (λ b. halted || b) (or_false (is_halt event))
  where
    or_false : (b : Bool) → (b || false) ≡ b
    or_false true = refl
    or_false false = refl

-- memory is wanting for a scan alone
pub was_scan : (event : PlanEvent) → (is_scan event ≡ false → true ≡ false) → is_scan event ≡ true
was_scan event none = by (is_scan event) refl
  where
    by : (b : Bool) → is_scan event ≡ b → b ≡ true
    by true e = refl
    by false e = true_false (none e)
