use Rattle.std.proofs.Common.{◌∙◌}
use Rattle.env_subst.specs.Settings.{setting_of}
use Rattle.env_subst.specs.Desks.{tasks_of}
use Rattle.env_subst.proofs.CallSteps.{apart_step}
use Rattle.env_subst.proofs.apart.read_apart.Goals as goal

pub returns : goal.returns
returns c =
    let l = c.args.setting.now.locals.now in
    let d = c.args.desk.now in
    apart_step (setting_of c.args.setting.now) (tasks_of l d.tasks.tasks.items) (tasks_of l c.push.new.stack.tasks.items) (tasks_of l c.push-2.new.stack.tasks.items)
    d.names d.pieces c.replace-outer.result c.replace-outer.new.dest d.references c.args.call c.args.alone c.in_ok-name.name c.args.text (c.in_ok-name.ensures {u = tt})
    c.replace-outer.ensures.value (c.replace-outer.ensures.after ∙ c.inner-inner.ensures) ((c.in_ok-push.ensures {u = tt}) l) ((c.in_ok-push-2.ensures {u = tt}) l)
