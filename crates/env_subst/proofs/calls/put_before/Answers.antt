use Rattle.env_subst.specs.Settings.{setting_of}
use Rattle.env_subst.specs.Sayings.{sayings_of}
use Rattle.env_subst.specs.Desks.{tasks_of, desk_of}
use Rattle.env_subst.proofs.CallSteps.{items_left}
use Rattle.env_subst.proofs.calls.put_before.Goals as goal

pub returns : goal.returns
returns c =
    let l = c.args.setting.now.locals.now in
    let d = c.args.desk.now in
    items_left (setting_of c.args.setting.now) (desk_of l c.put_item.new.desk) c.args.call c.args.saying (sayings_of l c.args.rest) c.put_item.result
    (tasks_of l d.tasks.tasks.items) (tasks_of l c.push_items.new.stack.tasks.items) d.names d.pieces d.references
    ((c.in_ok-push_items.ensures {u = tt}) l) c.put_item.ensures
