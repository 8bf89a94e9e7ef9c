use Rattle.task_plan.specs.Tracked.{AreUnreadyTo}
use Rattle.task_plan.proofs.meeting.next_ready.Given as goal

abbrev pub invariant-loop-place : goal.invariant-loop-place
invariant-loop-place l = AreUnreadyTo l.states l.files.origins.items l.reach l.start l.place
