use Rattle.env_subst.specs.Settings.{setting_of}
use Rattle.env_subst.specs.Desks.{desk_of}
use Rattle.env_subst.proofs.CallSteps.{named_dirs, named_fails}
use Rattle.env_subst.proofs.calls.put_named.Goals as goal

pub returns-in-Ok : goal.returns-in-Ok
returns-in-Ok c =
    let l = c.args.setting.now.locals.now in
    let d = desk_of l c.args.desk.now in
    named_dirs (setting_of c.args.setting.now) (desk_of l c.put_dirs.new.desk) c.args.call c.put_dirs.result d c.args.text.now c.in-Ok.found (c.in-Ok.ensures.dirs d.state) c.put_dirs.ensures

pub returns-in-Err : goal.returns-in-Err
returns-in-Err c =
    let d = desk_of c.args.setting.now.locals.now c.args.desk.now in
    λ h. named_fails (setting_of c.args.setting.now) d c.args.call c.args.text.now c.in-Err.fault (c.in-Err.ensures.dirs d.state h)
