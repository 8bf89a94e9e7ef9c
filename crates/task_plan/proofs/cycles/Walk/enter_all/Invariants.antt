use Rattle.task_plan.specs.Walks.{AreToEnter}
use Rattle.task_plan.proofs.cycles.Walk.enter_all.Given as goal

abbrev pub invariant-loop-number : goal.invariant-loop-number
invariant-loop-number l = AreToEnter l.rules l.number l.self
