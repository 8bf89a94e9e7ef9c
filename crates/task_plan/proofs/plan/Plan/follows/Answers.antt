use Rattle.std.proofs.Common.{sym}
use Rattle.task_plan.proofs.FollowLemmas.{all_follow}
use Rattle.task_plan.proofs.plan.Plan.follows.Goals as goal

pub returns : goal.returns
returns c =
    let i = c.self.inside in
    rw (sym c.self.view_is) (all_follow i.states i.queue i.tasks.items i.files.origins.items i.scannable c.self.invariant)
