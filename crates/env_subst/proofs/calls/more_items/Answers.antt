use Rattle.env_subst.specs.Settings.{setting_of}
use Rattle.env_subst.specs.Sayings.{sayings_of}
use Rattle.env_subst.specs.Desks.{desk_of}
use Rattle.env_subst.proofs.CallSteps.{further_items, no_items}
use Rattle.env_subst.proofs.calls.more_items.Goals as goal

pub returns-in-Some : goal.returns-in-Some
returns-in-Some c =
    let l = c.args.setting.now.locals.now in
    further_items (setting_of c.args.setting.now) (desk_of l c.put_items.new.desk) c.args.call c.in-Some.first.saying (sayings_of l c.in-Some.first.rest) c.put_items.result
    (desk_of l c.args.desk.now) (sayings_of l c.args.sayings) (rw c.in-Some.is at (c.in_ok-first.ensures {u = tt})) c.put_items.ensures

pub returns-in-None : goal.returns-in-None
returns-in-None c =
    let l = c.args.setting.now.locals.now in
    no_items (setting_of c.args.setting.now) (desk_of l c.args.desk.now) c.args.call (sayings_of l c.args.sayings) (rw c.in-None.is at (c.in_ok-first.ensures {u = tt}))
