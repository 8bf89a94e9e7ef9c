use Rattle.env_subst.specs.Settings.{setting_of}
use Rattle.std.proofs.Common.{◌+◌, drop}
use Rattle.env_subst.specs.Desks.{tasks_of, desk_of}
use Rattle.env_subst.proofs.CallSteps.{dirs_left, no_dirs}
use Rattle.env_subst.proofs.calls.put_dirs.Goals as goal

pub returns-in_ok-push_dirs-in-Some : goal.returns-in_ok-push_dirs-in-Some
returns-in_ok-push_dirs-in-Some c =
    let l = c.args.setting.now.locals.now in
    let d = c.args.desk.now in
    dirs_left (setting_of c.args.setting.now) (tasks_of l d.tasks.tasks.items) d.names (desk_of l c.put_between.new.desk) d.references c.args.call (drop c.args.next c.args.found) c.put_between.result
    (tasks_of l c.push_dirs.new.stack.tasks.items) d.pieces c.in-Some.text (drop (c.args.next + 1) c.args.found) (rw c.in-Some.is at (c.in_ok-text.ensures {u = tt}).dir)
    ((c.in_ok-push_dirs-in-Some.ensures {u = tt}) l) c.put_between.ensures

pub returns-in-None : goal.returns-in-None
returns-in-None c =
    no_dirs (setting_of c.args.setting.now) (desk_of c.args.setting.now.locals.now c.args.desk.now) c.args.call (drop c.args.next c.args.found) (rw c.in-None.is at (c.in_ok-text.ensures {u = tt}).dir)
