use Rattle.std.proofs.Common.{arith}
use Rattle.task_plan.proofs.MarkLemmas.{double_add, few_levels}
use Rattle.task_plan.proofs.marks.Marks.new.Goals as goal

pub loop-room-preserved : goal.loop-room-preserved
loop-room-preserved c =
    let is = c.loop-room.invariant.1 in
    let lt = c.if-levels-lt31.true in
    let d = double_add c.loop-room.levels in
    let p = few_levels c.loop-room.levels lt in
    (omega arith, omega arith, omega arith)
