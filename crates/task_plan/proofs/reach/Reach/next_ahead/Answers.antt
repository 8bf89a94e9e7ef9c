use Rattle.std.proofs.Common.{arith, ◌≤◌}
use Rattle.task_plan.proofs.ReachLemmas.{is_next}
use Rattle.task_plan.proofs.reach.Reach.next_ahead.Goals as goal

pub returns-in-Some : goal.returns-in-Some
returns-in-Some c =
    let from : c.args.self.now.front ≤ c.in-Some.place = omega arith in
    (c.if-is_listed.true, is_next c.args.self.now c.args.node c.in-Some.place c.in-Some.ensures.index c.len.ensures.unique from)
