use Rattle.std.proofs.Common.{◌≡◌}
use Rattle.task_plan.specs.Marks.{IsRoom, leaves}
use Rattle.task_plan.proofs.MarkLemmas.{IsWriting}
use Rattle.task_plan.proofs.marks.Marks.put.Given as goal

abbrev pub invariant-loop-place : goal.invariant-loop-place
invariant-loop-place l =
    IsWriting l.self-inside.tree.items l.self-inside.room l.place
    × IsRoom l.self-inside.room l.self-inside.levels
    × (leaves l.self-inside.tree.items l.self-inside.room ≡ leaves l.initial.self-inside.tree.items l.initial.self-inside.room)

abbrev pub decreases-loop-place : goal.decreases-loop-place
decreases-loop-place l = l.place
