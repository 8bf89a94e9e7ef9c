use Rattle.task_plan.specs.Walks.{AreToEnter}
use Rattle.task_plan.proofs.cycles.Walk.new.Given as goal

abbrev pub invariant-loop-root : goal.invariant-loop-root
invariant-loop-root l = AreToEnter l.rules l.rules l.walk
