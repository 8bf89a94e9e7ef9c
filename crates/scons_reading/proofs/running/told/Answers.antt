use Rattle.std.proofs.Common.{subst}
use Rattle.std.specs.Prelude.{Result}
use Rattle.py_meaning.specs.declared.fault.EvalFault.{EvalFault}
use Rattle.py_eval.specs.declared.scripts.Ran.{Ran}
use Rattle.scons_host.specs.SoFar.{so_far}
use Rattle.scons_reading.specs.Coming.{CameTo}
use Rattle.scons_reading.specs.Running.{HasRunCause}
use Rattle.scons_reading.proofs.running.told.Goals as goal

pub returns-in-Ok-clause-ended : goal.returns-in-Ok-clause-ended
returns-in-Ok-clause-ended c = λ f b text came. subst (λ (r : Result Ran EvalFault). CameTo f b text (so_far c.args.state.now) c.args.kept.end r) c.in-Ok.is came

pub returns-in-Err : goal.returns-in-Err
returns-in-Err c = record {
  cause = λ old new cause. c.ended.ensures.cause old new (subst (λ (r : Result Ran EvalFault). HasRunCause old new c.args.kept.end r) c.in-Err.is cause);
  ended = λ f b text came. c.ended.ensures.stops f b text (subst (λ (r : Result Ran EvalFault). CameTo f b text (so_far c.args.state.now) c.args.kept.end r) c.in-Err.is came);
}
