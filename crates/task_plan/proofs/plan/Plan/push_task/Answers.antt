use Rattle.std.proofs.Common.{arith, ◌∙◌, ◌∷◌, [], ap, refl, sym, length, length-append}
use Rattle.std.specs.Prelude.{map}
use Rattle.std.proofs.lemmas.List.{map-append}
use Rattle.task_plan.specs.Settled.{kept_of}
use Rattle.task_plan.proofs.TrackLemmas.{tracked_push, tracked_blank}
use Rattle.task_plan.proofs.AdmitLemmas.{widens_more}
use Rattle.task_plan.proofs.WidenLemmas.{watch_task}
use Rattle.task_plan.proofs.plan.Plan.push_task.Goals as goal

pub invariant_of-self-2 : goal.invariant_of-self-2
invariant_of-self-2 c =
    let i = c.self.inside in
    rw (c.in_ok-push.ensures {u = tt}).items
    (tracked_push i.states i.queue i.tasks.items i.files.origins.items i.scannable c.new.result (tracked_blank i.states i.files.origins.items c.new.result c.new.ensures) c.self.invariant)

pub returns-clause-widens : goal.returns-clause-widens
returns-clause-widens c =
    let i = c.self.inside in
    rw (sym c.self.view_is) (widens_more _ _ (kept_of c.new.result) refl (ap (map kept_of) (c.in_ok-push.ensures {u = tt}).items ∙ map-append kept_of i.tasks.items (c.new.result ∷ [])) refl)

pub returns-clause-more : goal.returns-clause-more
returns-clause-more c =
    let i = c.self.inside in
    let e = ap (map kept_of) (c.in_ok-push.ensures {u = tt}).items ∙ map-append kept_of i.tasks.items (c.new.result ∷ []) in
    let n = ap length e in
    let m = length-append (map kept_of i.tasks.items) (kept_of c.new.result ∷ []) in
    rw (sym c.self.view_is) (omega arith)

pub returns-clause-watch : goal.returns-clause-watch
returns-clause-watch c =
    let i = c.self.inside in
    rw (sym c.self.view_is, (c.in_ok-push.ensures {u = tt}).items) (watch_task i.states i.queue i.halted i.tasks.items i.files.origins.items i.scannable i.files.waiters.items i.is_ordered i.roots.items c.new.result c.self.invariant.room)
