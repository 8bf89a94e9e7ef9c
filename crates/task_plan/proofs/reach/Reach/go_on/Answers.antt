use Rattle.std.proofs.Common.{refl}
use Rattle.task_plan.proofs.ReachLemmas.{walked_on}
use Rattle.task_plan.proofs.reach.Reach.go_on.Goals as goal

pub returns-in-Some-clause-walked : goal.returns-in-Some-clause-walked
returns-in-Some-clause-walked c =
    walked_on c.args.self.now _ c.in-Some.next c.args.before (rw c.in-Some.is at c.requires.next) (c.is_ahead.ensures c.if-is_ahead.true) refl
