use Rattle.std.proofs.Common.{refl, sym}
use Rattle.deciders.proofs.Anys.{same_first, first_is, never}
use Rattle.deciders.proofs.changes.same_deps.Goals as goal

pub returns-then-is_other : goal.returns-then-is_other
returns-then-is_other c =
    (λ t. absurd (never t), λ e. sym (c.if-is_other.ensures.1 (first_is c.loop-x.xs.now c.loop-x.ys.now c.in-Some.x.now c.in-Some.y.now c.in-Some.x_rest.now c.in-Some.y_rest.now c.in-Some.ensures.0 c.in-Some.ensures.1 (c.loop-x.invariant.1 e))))

pub loop-x-preserved : goal.loop-x-preserved
loop-x-preserved c =
    let step = same_first c.loop-x.xs.now c.loop-x.ys.now c.in-Some.x.now c.in-Some.y.now c.in-Some.x_rest.now c.in-Some.y_rest.now c.in-Some.ensures.0 c.in-Some.ensures.1 (c.if-is_other.ensures.0 refl) in
    (λ e. c.loop-x.invariant.0 (step.0 e), λ e. step.1 (c.loop-x.invariant.1 e))
