use Rattle.std.proofs.Common.{sym}
use Rattle.std.specs.Prelude.{map}
use Rattle.task_plan.specs.Settled.{kept_of}
use Rattle.task_plan.proofs.HeldLemmas.{no_waiter, one_waiter}
use Rattle.task_plan.proofs.held.Held.add_waiter.Goals as goal

pub returns-then-not-waits_for-clause-finds : goal.returns-then-not-waits_for-clause-finds
returns-then-not-waits_for-clause-finds c = no_waiter c.args.states.now (map kept_of c.args.tasks.now) c.args.file c.args.fault c.args.rule c.args.self.now.seen.items c.args.self.now.pairs.items

pub returns-clause-finds : goal.returns-clause-finds
returns-clause-finds c =
    let old = c.args.self.now in
    let new = c.add.new.self in
    one_waiter c.args.states.now (map kept_of c.args.tasks.now) c.args.file c.args.fault c.args.rule old.seen.items new.seen.items old.pairs.items new.pairs.items (sym (c.if-not-waits_for.ensures {u = tt}))
    (c.in_ok-add.ensures {u = tt}).finds
