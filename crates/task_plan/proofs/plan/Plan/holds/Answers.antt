use Rattle.std.proofs.Common.{refl, sym}
use Rattle.task_plan.proofs.NextLemmas.{has_places}
use Rattle.task_plan.proofs.WantLemmas.{planned}
use Rattle.task_plan.proofs.WatchSteps.{targets_of}
use Rattle.task_plan.proofs.HoldLemmas.{waits_on, held}
use Rattle.task_plan.proofs.plan.Plan.holds.Goals as goal

pub returns-clause-waits : goal.returns-clause-waits
returns-clause-waits c = λ complete from fits.
    let i = c.self.inside in
    waits_on c.args.self.now complete (rw (sym c.self.view_is) (has_places (planned i.states i.queue i.halted i.tasks.items i.files.origins.items i.scannable i.files.waiters.items i.is_ordered i.roots.items) i.tasks.items refl refl))
    (targets_of c.args._graph.now c.args.self.now fits from)

pub returns-clause-held : goal.returns-clause-held
returns-clause-held c = λ complete from fits.
    let i = c.self.inside in
    held c.args.self.now complete (rw (sym c.self.view_is) (has_places (planned i.states i.queue i.halted i.tasks.items i.files.origins.items i.scannable i.files.waiters.items i.is_ordered i.roots.items) i.tasks.items refl refl))
    (targets_of c.args._graph.now c.args.self.now fits from)
