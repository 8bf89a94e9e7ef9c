use Rattle.std.specs.Prelude.{map}
use Rattle.task_plan.specs.Settled.{kept_of}
use Rattle.task_plan.specs.Noted.{lists_of}
use Rattle.task_plan.proofs.HeldLemmas.{AreFoundTo}
use Rattle.task_plan.proofs.held.held_by.Given as goal

abbrev pub invariant-loop-fault : goal.invariant-loop-fault
invariant-loop-fault l = AreFoundTo l.states (map kept_of l.tasks) (lists_of l.files.waiters.items) l.faulty l.fault-index l.held.seen.items l.held.pairs.items
