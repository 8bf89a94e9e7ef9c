use Rattle.std.proofs.Common.{arith}
use Rattle.std.proofs.lemmas.Grind.{common_steps}
use Rattle.model_trials.proofs.Leading.{begins_at, ends}
use Rattle.model_trials.proofs.loops.led_from.Goals as goal

pub loop-step-init : goal.loop-step-init
loop-step-init c = begins_at c.args.needs.now c.args.roots.now c.new-met.ensures.items c.in_ok-waiting.ensures.items

pub returns-then-is_empty : goal.returns-then-is_empty
returns-then-is_empty c = ends c.args.needs.now c.args.roots.now (grind (arith, common_steps)) c.loop-step.invariant
