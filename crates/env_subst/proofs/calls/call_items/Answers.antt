use Rattle.std.proofs.Common.{◌∙◌, ap}
use Rattle.env_subst.specs.Settings.{setting_of}
use Rattle.env_subst.specs.Contents.{said}
use Rattle.env_subst.specs.Sayings.{sayings_of}
use Rattle.env_subst.specs.Desks.{tasks_of, desk_of}
use Rattle.env_subst.proofs.CallSteps.{call_begins}
use Rattle.env_subst.proofs.calls.call_items.Goals as goal

pub returns : goal.returns
returns c =
    let l = c.args.setting.now.locals.now in
    let d = c.args.desk.now in
    call_begins (setting_of c.args.setting.now) (tasks_of l d.tasks.tasks.items) d.names d.pieces d.references c.args.call c.begun-call.result c.room.result (sayings_of l c.said.result)
    (desk_of l c.more_items.new.desk) c.more_items.result c.begun-call.ensures c.room.ensures (c.said.ensures l ∙ ap (said l) (c.in_ok-held.ensures {u = tt})) c.more_items.ensures
