use Rattle.std.proofs.Common.{refl}
use Rattle.model_trials.proofs.Sameness.{differs_now, differs_later, none_left, never}
use Rattle.model_trials.proofs.changes.any_differs.Goals as goal

pub returns-then-differs_in_both : goal.returns-then-differs_in_both
returns-then-differs_in_both c =
    (λ _. c.loop-x.invariant.0 (differs_now c.loop-x.xs.now c.loop-x.ys.now c.in-Some.x.now c.in-Some.y.now c.in-Some.x_rest.now c.in-Some.y_rest.now c.in-Some.ensures.0 c.in-Some.ensures.1 (c.if-differs_in_both.ensures.0 refl)), λ _. refl)

pub loop-x-preserved : goal.loop-x-preserved
loop-x-preserved c =
    let step = differs_later c.loop-x.xs.now c.loop-x.ys.now c.in-Some.x.now c.in-Some.y.now c.in-Some.x_rest.now c.in-Some.y_rest.now c.in-Some.ensures.0 c.in-Some.ensures.1 (λ p. never (c.if-differs_in_both.ensures.1 p)) in
    (λ any. c.loop-x.invariant.0 (step.0 any), λ any. step.1 (c.loop-x.invariant.1 any))

pub returns : goal.returns
returns c = (λ t. absurd (never t), λ any. absurd (none_left c.loop-x.xs.now c.loop-x.ys.now c.in_default.ensures (c.loop-x.invariant.1 any)))
