use Rattle.std.proofs.Common.{subst}
use Rattle.std.specs.Prelude.{Result}
use Rattle.scons_host.specs.declared.stop.Stop.{Stop}
use Rattle.scons_host.specs.Causes.{HasLookCause}
use Rattle.scons_host.specs.Looking.{inside_result}
use Rattle.scons_reading.proofs.rules.finished.Goals as goal

pub returns-in-Ok-clause-cause : goal.returns-in-Ok-clause-cause
returns-in-Ok-clause-cause c = λ old new was. inside_result old new c.made.result (subst (λ (r : Result (Unit {0}) Stop). HasLookCause old new r) c.in-Ok.is was) c.made.ensures.inside
