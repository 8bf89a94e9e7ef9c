use Rattle.std.proofs.Common.{◌≡◌, ◌-◌, ◌<◌, ◌^◌}
use Rattle.task_plan.proofs.marks.Marks.new.Given as goal

abbrev pub invariant-loop-room : goal.invariant-loop-room
invariant-loop-room l = (l.levels < 32) × (l.room ≡ 2 ^ l.levels) × (l.room < 2 ^ 32)

abbrev pub decreases-loop-room : goal.decreases-loop-room
decreases-loop-room l = 32 - l.levels
