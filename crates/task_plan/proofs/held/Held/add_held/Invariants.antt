use Rattle.std.specs.Prelude.{map}
use Rattle.task_plan.specs.Settled.{kept_of}
use Rattle.task_plan.specs.Noted.{lists_of}
use Rattle.task_plan.specs.Holding.{WalksTo}
use Rattle.task_plan.proofs.held.Held.add_held.Given as goal

abbrev pub invariant-loop-place : goal.invariant-loop-place
invariant-loop-place l = WalksTo l.states (map kept_of l.tasks) (lists_of l.files.waiters.items) l.fn.fault l.fn.self l.self l.place
