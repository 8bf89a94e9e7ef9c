use Rattle.std.proofs.Common.{◌≡◌, reverse, vec_len}
use Rattle.py_steps.specs.Desks.{past_loop}
use Rattle.py_steps.proofs.desk.Desk.break_loop.Given as goal

abbrev pub invariant-tasks : goal.invariant-tasks
invariant-tasks l = (past_loop (reverse l.self.tasks.items) ≡ past_loop (reverse l.initial.self.tasks.items)) × (l.self.values ≡ l.initial.self.values)

abbrev pub decreases-tasks : goal.decreases-tasks
decreases-tasks l = vec_len l.self.tasks
