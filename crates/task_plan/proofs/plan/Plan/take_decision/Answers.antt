use Rattle.task_plan.proofs.SettleLemmas.{decided_complete}
use Rattle.task_plan.proofs.plan.Plan.take_decision.Goals as goal

pub returns-then-is_open-clause-complete : goal.returns-then-is_open-clause-complete
returns-then-is_open-clause-complete c = λ u w k. decided_complete c.args.self.now c.decided.new.self c.args.rule.0 c.args.state c.decided.ensures.decides c.decided.ensures.states w u k
