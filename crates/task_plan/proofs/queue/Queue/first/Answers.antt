use Rattle.std.proofs.Common.{◌≡◌, ◌∙◌, ℕ, false, ap, sym}
use Rattle.std.specs.Prelude.{slice_get}
use Rattle.task_plan.specs.Queues.{is_open}
use Rattle.task_plan.proofs.QueueLemmas.{first_some, first_none, none_open, at_places}
use Rattle.task_plan.proofs.queue.Queue.first.Goals as goal

pub returns-in-Some-clause-some : goal.returns-in-Some-clause-some
returns-in-Some-clause-some c =
    let i = c.self.inside in
    let e : c.at.result ≡ slice_get i.rules.items c.in-Some.number = c.at.ensures ∙ ap (λ q. slice_get q.order c.in-Some.number) (sym c.self.view_is) in
    rw (sym c.self.view_is) (first_some i.rules.items i.numbers.items i.opens c.in-Some.number c.at.result c.self.invariant (sym c.in-Some.ensures.first) e)

pub returns-in-Some-clause-none : goal.returns-in-Some-clause-none
returns-in-Some-clause-none c =
    let i = c.self.inside in
    let e : c.at.result ≡ slice_get i.rules.items c.in-Some.number = c.at.ensures ∙ ap (λ q. slice_get q.order c.in-Some.number) (sym c.self.view_is) in
    first_none i.rules.items i.numbers.items i.opens c.in-Some.number c.at.result ((rule : ℕ) → is_open c.args.self.now rule ≡ false) c.self.invariant (sym c.in-Some.ensures.first) e

pub returns-in-None-clause-none : goal.returns-in-None-clause-none
returns-in-None-clause-none c =
    let i = c.self.inside in
    rw (sym c.self.view_is) (none_open i.rules.items i.numbers.items i.opens (sym c.in-None.ensures.first))

pub returns-in-Some-clause-places : goal.returns-in-Some-clause-places
returns-in-Some-clause-places c = let i = c.self.inside in rw (sym c.self.view_is) (at_places i.rules.items i.numbers.items i.opens c.self.invariant)

pub returns-in-None-clause-places : goal.returns-in-None-clause-places
returns-in-None-clause-places c = let i = c.self.inside in rw (sym c.self.view_is) (at_places i.rules.items i.numbers.items i.opens c.self.invariant)
