use Rattle.std.proofs.Common.{arith, ◌≤◌, length, refl, sym}
use Rattle.std.proofs.lemmas.List.{map-set}
use Rattle.task_plan.specs.Settled.{kept_of}
use Rattle.task_plan.proofs.TrackLemmas.{tracked_task, tracked_new}
use Rattle.task_plan.proofs.StandLemmas.{puts_task, puts_nowhere}
use Rattle.task_plan.proofs.plan.Plan.put_task.Goals as goal

pub invariant_of-self : goal.invariant_of-self
invariant_of-self c =
    let i = c.self.inside in
    let k = tracked_new i.states i.files.origins.items c.args.task c.requires.passed c.requires.whole c.requires.listing in
    rw c.put-then-number-len.ensures
    (tracked_task i.states i.queue c.put.new.self i.tasks.items i.files.origins.items i.scannable c.args.rule.0 c.args.task k c.put.ensures.this c.put.ensures.others c.self.invariant)

pub returns-then-number-len-clause-rules : goal.returns-then-number-len-clause-rules
returns-then-number-len-clause-rules c =
    let i = c.self.inside in
    rw (sym c.self.view_is) (map-set kept_of i.tasks.items c.args.rule.0 c.args.task)

pub returns-then-number-len-clause-puts : goal.returns-then-number-len-clause-puts
returns-then-number-len-clause-puts c =
    let i = c.self.inside in
    rw (sym c.self.view_is, c.put-then-number-len.ensures)
    (puts_task i.states i.queue i.halted i.tasks.items i.files.origins.items i.scannable i.files.waiters.items i.is_ordered i.roots.items c.args.rule.0 c.put.new.self c.args.task)

pub returns-else-number-len-clause-puts : goal.returns-else-number-len-clause-puts
returns-else-number-len-clause-puts c =
    let i = c.self.inside in
    let past : length i.tasks.items ≤ c.args.rule.0 = omega (arith, i.tasks.ok.0, c.len.ensures, c.if-number-len.false) in
    rw (sym c.self.view_is)
    (puts_nowhere i.states i.queue i.halted i.tasks.items i.files.origins.items i.scannable i.files.waiters.items i.is_ordered i.roots.items c.args.rule.0 c.args.task past)

pub returns-then-number-len-clause-order : goal.returns-then-number-len-clause-order
returns-then-number-len-clause-order c =
    rw (sym c.self.view_is) (record { queue = record { order = c.put.ensures.order; roots = refl; fits = λ h. absurd (cc) }; states = λ ok r. refl; origins = λ n h. refl })

pub returns-else-number-len-clause-order : goal.returns-else-number-len-clause-order
returns-else-number-len-clause-order c =
    rw (sym c.self.view_is) (record { queue = record { order = refl; roots = refl; fits = λ h. absurd (cc) }; states = λ ok r. refl; origins = λ n h. refl })
