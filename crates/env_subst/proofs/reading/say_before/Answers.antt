use Rattle.env_subst.specs.Settings.{setting_of}
use Rattle.env_subst.specs.Sayings.{sayings_of}
use Rattle.env_subst.specs.Desks.{tasks_of, desk_of}
use Rattle.env_subst.proofs.Doing.{says_on}
use Rattle.env_subst.proofs.reading.say_before.Goals as goal

pub returns : goal.returns
returns c =
    let l = c.args.setting.now.locals.now in
    let d = c.args.desk.now in
    says_on (setting_of c.args.setting.now) (tasks_of l d.tasks.tasks.items) d.names d.references (desk_of l c.say_one.new.desk) c.args.name c.say_one.result
    c.args.saying (sayings_of l c.args.rest) (tasks_of l c.push_sayings.new.stack.tasks.items) d.pieces ((c.in_ok-push_sayings.ensures {u = tt}) l)
    c.say_one.ensures
