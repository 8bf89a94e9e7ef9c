use Rattle.std.proofs.Common.{true, refl, sym}
use Rattle.task_plan.proofs.WantLemmas.{planned}
use Rattle.task_plan.proofs.WatchSteps.{complete_halted}
use Rattle.task_plan.proofs.plan.Plan.take.Goals as goal

pub returns-in-Scanned-clause-knows : goal.returns-in-Scanned-clause-knows
returns-in-Scanned-clause-knows c = rw c.in-Scanned.is (rw c.into_vec.ensures at c.take_scan.ensures.scans)

pub returns-in-Scanned-clause-finds : goal.returns-in-Scanned-clause-finds
returns-in-Scanned-clause-finds c = rw c.in-Scanned.is (rw c.into_vec.ensures at c.take_scan.ensures.finds)

pub returns-in-Halt-clause-complete : goal.returns-in-Halt-clause-complete
returns-in-Halt-clause-complete c =
    let i = c.self.inside in
    rw (sym c.self.view_is) (λ n t r k. complete_halted (planned i.states i.queue i.halted i.tasks.items i.files.origins.items i.scannable i.files.waiters.items i.is_ordered i.roots.items) (planned i.states i.queue true i.tasks.items i.files.origins.items i.scannable i.files.waiters.items i.is_ordered i.roots.items) refl k)

pub returns-in-Scanned-clause-order : goal.returns-in-Scanned-clause-order
returns-in-Scanned-clause-order c = rw c.in-Scanned.is c.take_scan.ensures.order
