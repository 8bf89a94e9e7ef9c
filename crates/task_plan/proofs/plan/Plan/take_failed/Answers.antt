use Rattle.std.proofs.Common.{refl}
use Rattle.task_plan.specs.declared.states.RuleState.TheVariants.{Failed}
use Rattle.task_plan.proofs.SettleLemmas.{decided_complete}
use Rattle.task_plan.proofs.plan.Plan.take_failed.Goals as goal

pub returns-then-eq-clause-complete : goal.returns-then-eq-clause-complete
returns-then-eq-clause-complete c = λ k. decided_complete c.args.self.now c.decided.new.self c.args.rule.0 Failed c.decided.ensures.decides c.decided.ensures.states (λ e. cc) refl k
