use Rattle.std.proofs.Common.{◌^◌}
use Rattle.task_plan.proofs.MarkLemmas.{IsLeast}
use Rattle.task_plan.proofs.marks.Marks.first.Given as goal

abbrev pub invariant-loop-level : goal.invariant-loop-level
invariant-loop-level l = IsLeast l.self-inside.tree.items (2 ^ l._level) l.place
