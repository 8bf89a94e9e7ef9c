use Rattle.std.specs.Prelude.{Result}
use Rattle.std.proofs.Common.{refl, subst}
use Rattle.rule_graph.specs.Graphs.{RuleGraph}
use Rattle.scons_host.specs.declared.stop.Stop.{Stop}
use Rattle.scons_host.specs.Causes.{HasLookCause}
use Rattle.scons_host.specs.Laws.{counts_same, end_caused}
use Rattle.scons_reading.proofs.reading.ended_by.Goals as goal

pub returns-in-Ok : goal.returns-in-Ok
returns-in-Ok c = record {
  cause = λ old new out cause. counts_same old new out out (subst (λ (r : Result RuleGraph Stop). HasLookCause old new r) c.in-Ok.is cause) refl;
  end = c.in-Ok.is;
}

pub returns-in-Err : goal.returns-in-Err
returns-in-Err c = record {
  cause = λ old new out cause.
      end_caused old new out c.in-Err.stop c.end_of.result c.end_of.ensures.cause (subst (λ (r : Result RuleGraph Stop). HasLookCause old new r) c.in-Err.is cause);
  end = λ t. (c.in-Err.stop, c.in-Err.is, c.end_of.ensures.told t, c.end_of.ensures.end t);
}
