use Rattle.std.proofs.lemmas.Result.{err_from_is_err_and}
use Rattle.env_subst.specs.Settings.{setting_of}
use Rattle.env_subst.specs.Expansions.{calls}
use Rattle.env_subst.specs.Desks.{tasks_of, desk_of, deeper_of}
use Rattle.env_subst.proofs.Doing.{refers_on, refers_no_more, leads_too}
use Rattle.env_subst.proofs.reading.read_call.Goals as goal

pub returns-in_err-desk : goal.returns-in_err-desk
returns-in_err-desk c =
    let l = c.args.setting.now.locals.now in
    let w = setting_of c.args.setting.now in
    let d = c.args.desk.now in
    let p = err_from_is_err_and c.from_residual.result c.from_residual.ensures.1 in
    rw (p.1, p.2) (λ _. refers_no_more w (tasks_of l d.tasks.tasks.items) d.names d.pieces d.references c.args.owner c.args.rest.text c.args.rest.at
    (calls w (deeper_of w d.names) d.names c.args.call) _ (c.in_err-desk.ensures {u = tt}))

pub returns : goal.returns
returns c =
    let l = c.args.setting.now.locals.now in
    let w = setting_of c.args.setting.now in
    let d = c.args.desk.now in
    leads_too w _ _ (desk_of l c.call_items.new.desk) c.call_items.result
    (refers_on w (tasks_of l d.tasks.tasks.items) d.names d.pieces d.references c.args.owner c.args.rest.text c.args.rest.at
    (calls w (deeper_of w d.names) d.names c.args.call) (tasks_of l c.push_rest.new.stack.tasks.items) c.in_ok-desk.field-0
    (c.in_ok-desk.ensures {u = tt}) ((c.in_ok-push_rest.ensures {u = tt}) l))
    c.call_items.ensures
