use Rattle.std.proofs.Common.{sym, refl}
use Rattle.task_plan.proofs.TrackLemmas.{tracked_decided, goes_unsettled}
use Rattle.task_plan.proofs.StandLemmas.{placed_same}
use Rattle.task_plan.proofs.plan.Plan.decided.Goals as goal

pub invariant_of-self : goal.invariant_of-self
invariant_of-self c =
    let i = c.self.inside in
    let goes = rw (sym c.self.view_is) at c.requires in
    rw c.set.ensures
    (tracked_decided i.states i.queue c.put.new.self i.tasks.items i.files.origins.items i.scannable c.args.rule.0 c.args.state goes c.put.ensures.this c.put.ensures.others c.self.invariant)

pub returns-clause-leaves : goal.returns-clause-leaves
returns-clause-leaves c = rw (sym c.self.view_is) (record { order = c.put.ensures.order; roots = refl; fits = λ h. h })

pub returns-clause-decides : goal.returns-clause-decides
returns-clause-decides c =
    let i = c.self.inside in
    let goes = rw (sym c.self.view_is) at c.requires in
    rw (sym c.self.view_is) (record {
      before = goes_unsettled i.states i.queue i.tasks.items i.files.origins.items i.scannable c.args.rule.0 c.self.invariant goes;
      rest = refl;
      placed = λ x. placed_same i.queue c.put.new.self x c.put.ensures.order c.put.ensures.numbers;
      others = c.put.ensures.others;
    })
