use Rattle.std.proofs.Common.{ap, refl, sym}
use Rattle.task_plan.specs.declared.files.Files.{Files}
use Rattle.task_plan.proofs.TrackLemmas.{tracked_origin}
use Rattle.task_plan.proofs.plan.Plan.note_origin.Goals as goal

pub invariant_of-self : goal.invariant_of-self
invariant_of-self c =
    let i = c.self.inside in
    rw c.set_origin.ensures.origins
    (tracked_origin i.states i.queue i.tasks.items i.files.origins.items i.scannable c.args.node.0 c.args.origin (rw (sym c.self.view_is) at c.requires) c.self.invariant)

pub returns : goal.returns
returns c = rw (sym c.self.view_is, c.set_origin.ensures.origins, ap (λ (f : Files). f.waiters.items) c.set_origin.ensures.rest) refl
