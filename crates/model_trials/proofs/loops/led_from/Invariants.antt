use Rattle.model_trials.specs.Loops.{IsUnderWay}
use Rattle.model_trials.proofs.loops.led_from.Given as goal

abbrev pub invariant-loop-step : goal.invariant-loop-step
invariant-loop-step l = IsUnderWay l.needs l.roots l.met.items l.waiting.items
