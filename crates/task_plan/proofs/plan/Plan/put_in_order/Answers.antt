use Rattle.std.proofs.Common.{arith, ◌≤◌, ◌∙◌, true, ap, sym, subst, length}
use Rattle.std.specs.Prelude.{is_some, map, not}
use Rattle.std.proofs.lemmas.List.{length-map}
use Rattle.task_plan.specs.Settled.{kept_of}
use Rattle.task_plan.specs.Plans.{Planned}
use Rattle.task_plan.specs.Orders.{IsOrder, HasReached}
use Rattle.task_plan.specs.Ordered.{PutsInOrder}
use Rattle.task_plan.specs.Watching.{Orders}
use Rattle.task_plan.proofs.LeaveLemmas.{leaves_same, put_anew, put_still}
use Rattle.task_plan.proofs.LookLemmas.{ordered_anew, orders_same, some_marked}
use Rattle.task_plan.proofs.RootLemmas.{placed_all}
use Rattle.task_plan.proofs.plan.Plan.put_in_order.Goals as goal
use Rattle.task_plan.proofs.plan.Plan.put_in_order.Goals.{else-not-self-via-then-not-self+else-is_none, else-not-self-via-else-not-self}

pub returns-in_ok-take_order-clause-orders : goal.returns-in_ok-take_order-clause-orders
returns-in_ok-take_order-clause-orders c =
    let a = c.args.self.now in
    let i = c.self.inside in
    let t = c.take_order.ensures in
    let n = c.note_all.ensures in
    let order = c.in_ok-order.order.items in
    let tasks = subst (λ l. HasReached (map kept_of l) i.files.origins.items c.as_slice.result.now order) c.deref.ensures.value c.in_ok-order.ensures.reached in
    let roots = subst (λ l. HasReached (map kept_of i.tasks.items) i.files.origins.items l order) c.as_slice.ensures.value tasks in
    let reached : HasReached a.rules a.origins a.notes.roots order = rw (sym c.self.view_is) roots in
    let room : length a.states ≤ length a.rules = rw (sym c.self.view_is) (let m = length-map i.tasks.items kept_of in let r = c.self.invariant.room in omega arith) in
    λ k. subst (λ (x : Planned). Orders a (record x { notes = record x.notes { is_ordered = true } })) (sym c.self-then-is_none.view_is)
    (ordered_anew a c.take_order.new.self c.note_all.new.self t.rest n.rest (placed_all a c.take_order.new.self order reached room c.in_ok-take_order.ensures.placed k) n.placed n.offers)

pub returns-else-not-self-clause-orders : goal.returns-else-not-self-clause-orders
returns-else-not-self-clause-orders c =
    λ _. orders_same c.args.self.now
    (rw (sym c.self.view_is) (record {
      fits = λ unmarked. elim c.else-not-self.branch [
        | else-not-self-via-then-not-self+else-is_none w ↦ absurd (some_marked c.self.inside.scannable (ap (λ x. is_some x) (sym w.first.ensures.first) ∙ w.is_none.ensures ∙ ap not w.if-is_none.false) unmarked)
        | else-not-self-via-else-not-self w ↦ w.if-not-self.false
      ];
    }))

pub returns-in_ok-take_order-clause-puts : goal.returns-in_ok-take_order-clause-puts
returns-in_ok-take_order-clause-puts c =
    let a = c.args.self.now in
    let i = c.self.inside in
    let tasks = subst (λ l. IsOrder (map kept_of l) i.files.origins.items c.as_slice.result.now c.in_ok-order.order.items) c.deref.ensures.value c.in_ok-order.ensures.order in
    let roots = subst (λ l. IsOrder (map kept_of i.tasks.items) i.files.origins.items l c.in_ok-order.order.items) c.as_slice.ensures.value tasks in
    let order : IsOrder a.rules a.origins a.notes.roots c.in_ok-order.order.items = rw (sym c.self.view_is) roots in
    subst (λ (x : Planned). PutsInOrder a (record x { notes = record x.notes { is_ordered = true } })) (sym c.self-then-is_none.view_is)
    (put_anew a c.take_order.new.self c.note_all.new.self c.in_ok-order.order.items c.take_order.ensures.rest c.note_all.ensures.rest c.in_ok-take_order.ensures.order c.note_all.ensures.order order)

pub returns-else-not-self-clause-puts : goal.returns-else-not-self-clause-puts
returns-else-not-self-clause-puts c = put_still c.args.self.now c.args.self.now (leaves_same c.args.self.now)
