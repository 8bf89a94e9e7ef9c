use Rattle.task_plan.proofs.TrackLemmas.{tracked_marks}
use Rattle.std.proofs.Common.{sym}
use Rattle.task_plan.proofs.WidenLemmas.{watch_marks}
use Rattle.task_plan.proofs.plan.Plan.make_mark_room.Goals as goal

pub invariant_of-self : goal.invariant_of-self
invariant_of-self c =
    let i = c.self.inside in
    tracked_marks i.states i.queue i.tasks.items i.files.origins.items i.scannable _ c.in_ok-marks.ensures.fewer c.self.invariant

pub returns-in_ok-marks-clause-watch : goal.returns-in_ok-marks-clause-watch
returns-in_ok-marks-clause-watch c =
    let i = c.self.inside in
    rw (sym c.self.view_is) (watch_marks i.states i.queue i.halted i.tasks.items i.files.origins.items i.scannable i.files.waiters.items i.is_ordered i.roots.items _ c.in_ok-marks.ensures.fewer c.in_ok-marks.ensures.more)
