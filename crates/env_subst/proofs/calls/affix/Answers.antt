use Rattle.env_subst.specs.Settings.{setting_of}
use Rattle.env_subst.specs.Desks.{plain, tasks_of}
use Rattle.env_subst.proofs.CallSteps.{affix_step}
use Rattle.env_subst.proofs.calls.affix.Goals as goal

pub returns : goal.returns
returns c =
    let l = c.args.setting.now.locals.now in
    affix_step (setting_of c.args.setting.now) (tasks_of l c.args.desk.now.tasks.tasks.items) (tasks_of l c.push_middle.new.stack.tasks.items) (tasks_of l c.push.new.stack.tasks.items)
    c.args.desk.now.names c.args.desk.now.pieces c.args.desk.now.references c.args.call (plain l c.args.middle) (c.requires c.args.desk.now.names)
    ((c.in_ok-push_middle.ensures {u = tt}) l) ((c.in_ok-push.ensures {u = tt}) l)
