use Rattle.std.proofs.Common.{refl, sym}
use Rattle.task_plan.proofs.TrackLemmas.{tracked_origins}
use Rattle.task_plan.proofs.AdmitLemmas.{widens_files}
use Rattle.task_plan.proofs.WidenLemmas.{watch_files}
use Rattle.task_plan.proofs.plan.Plan.make_node_room.Goals as goal

pub invariant_of-self : goal.invariant_of-self
invariant_of-self c =
    let i = c.self.inside in
    tracked_origins i.states i.queue i.tasks.items i.files.origins.items c.reach.new.self.origins.items i.scannable c.reach.ensures.same c.self.invariant

pub returns-clause-widens : goal.returns-clause-widens
returns-clause-widens c = rw (sym c.self.view_is) (widens_files _ _ refl refl c.reach.ensures.same c.reach.ensures.longer)

pub returns-clause-watch : goal.returns-clause-watch
returns-clause-watch c =
    let i = c.self.inside in
    rw (sym c.self.view_is)
    (watch_files i.states i.queue i.halted i.tasks.items i.files.origins.items i.scannable i.files.waiters.items i.is_ordered i.roots.items c.reach.new.self.origins.items c.reach.new.self.waiters.items
    c.reach.ensures.same c.reach.ensures.told c.reach.ensures.lists)
