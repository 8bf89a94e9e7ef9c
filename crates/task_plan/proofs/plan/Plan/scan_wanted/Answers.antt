use Rattle.std.proofs.Common.{arith, ◌≡◌, ◌<◌, ◌≤◌, ◌∙◌, Some, None, false, ap, length, refl, sym}
use Rattle.std.specs.Prelude.{slice_get}
use Rattle.std.proofs.lemmas.Bool.{ltb-true, ltb-false}
use Rattle.std.proofs.lemmas.Option.{slice_get_read, slice_get_within, same_Some, none-some}
use Rattle.std.proofs.lemmas.List.Quantifiers.{position-Some}
use Rattle.task_plan.proofs.WantLemmas.{ready_to_scan}
use Rattle.task_plan.specs.declared.task.Task.{Task}
use Rattle.task_plan.proofs.NextLemmas.{none_marked, if_none}
use Rattle.task_plan.proofs.plan.Plan.scan_wanted.Goals as goal

pub returns-clause-some : goal.returns-clause-some
returns-clause-some c =
    let i = c.self.inside in
    let tasks = c.deref.result.now in
    let found = c.in_ok-task.ensures.lookup in
    let number = c.in_ok-number.number in
    let task = c.in_ok-task.task.now in
    let within : number < length tasks = ltb-true number (length tasks) (sym found.0) in
    let read : slice_get tasks number ≡ Some task = slice_get_read tasks (length tasks) number task refl within found.1 in
    let at : slice_get i.tasks.items number ≡ Some task = rw (sym c.deref.ensures.value) read in
    rw (sym c.self.view_is, c.in_ok-rule.ensures.is)
    (ready_to_scan i.states i.queue i.halted i.tasks.items i.files.origins.items i.scannable i.files.waiters.items i.is_ordered i.roots.items number task c.in_ok-node.node.now c.self.invariant (sym c.in_ok-number.ensures.first) at (sym c.in_ok-node.ensures.key))

pub returns-in_err-number-clause-none : goal.returns-in_err-number-clause-none
returns-in_err-number-clause-none c =
    if_none c.from_residual.result (rw (sym c.self.view_is) (none_marked c.self.inside.scannable (sym c.in_err-number.ensures.first)))

pub returns-in_err-task-clause-none : goal.returns-in_err-task-clause-none
returns-in_err-task-clause-none c =
    let i = c.self.inside in
    let tasks = c.deref.result.now in
    let number = c.in_ok-number.number in
    let past : length tasks ≤ number = ltb-false number (length tasks) (sym c.in_err-task.ensures.lookup.0) in
    let k = c.self.invariant.marked number (position-Some (λ mark. mark) i.scannable number false (sym c.in_ok-number.ensures.first)).1 in
    let lt = slice_get_within i.tasks.items number k.task k.at in
    let same = ap length c.deref.ensures.value in
    absurd (omega arith)

pub returns-in_err-node-clause-none : goal.returns-in_err-node-clause-none
returns-in_err-node-clause-none c =
    let i = c.self.inside in
    let tasks = c.deref.result.now in
    let found = c.in_ok-task.ensures.lookup in
    let number = c.in_ok-number.number in
    let task = c.in_ok-task.task.now in
    let within : number < length tasks = ltb-true number (length tasks) (sym found.0) in
    let read : slice_get tasks number ≡ Some task = slice_get_read tasks (length tasks) number task refl within found.1 in
    let at : slice_get i.tasks.items number ≡ Some task = rw (sym c.deref.ensures.value) read in
    let k = c.self.invariant.marked number (position-Some (λ mark. mark) i.scannable number false (sym c.in_ok-number.ensures.first)).1 in
    let same : k.task ≡ task = same_Some k.task task (sym k.at ∙ at) in
    let next : slice_get task.reach.files.keys task.reach.next ≡ Some k.file = ap (λ (x : Task). slice_get x.reach.files.keys x.reach.next) (sym same) ∙ k.next in
    let none : slice_get task.reach.files.keys task.reach.next ≡ None = sym c.in_err-node.ensures.key in
    absurd (none-some k.file (sym none ∙ next))
