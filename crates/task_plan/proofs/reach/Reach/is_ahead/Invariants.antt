use Rattle.task_plan.specs.Listed.{AreAheadTo}
use Rattle.task_plan.proofs.reach.Reach.is_ahead.Given as goal

abbrev pub invariant-loop-place : goal.invariant-loop-place
invariant-loop-place l = AreAheadTo l.self.found.entries l.self.files.keys l.front l.place
