use Rattle.task_plan.proofs.CycleLemmas.{to_enter_still}
use Rattle.task_plan.proofs.cycles.Walk.new.Goals as goal

pub loop-root-preserved : goal.loop-root-preserved
loop-root-preserved c = to_enter_still c.args.rules c.loop-root.walk c.put.new.self _ c.put.ensures.rest c.in_ok-put.ensures.steps c.args.rules c.loop-root.invariant
