use Rattle.std.proofs.Common.{drop}
use Rattle.model_trials.proofs.Leading.{NoneBefore}
use Rattle.model_trials.proofs.loops.has_loop.Given as goal

abbrev pub invariant-loop-number : goal.invariant-loop-number
invariant-loop-number l = NoneBefore l.needs l.numbers (drop l.number-index l.numbers)
