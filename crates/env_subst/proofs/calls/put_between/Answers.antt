use Rattle.std.proofs.lemmas.Result.{err_from_is_err_and}
use Rattle.env_subst.specs.Settings.{setting_of}
use Rattle.env_subst.specs.Expansions.{affixed}
use Rattle.env_subst.specs.Desks.{plain, does, deeper_of, tasks_of, desk_of}
use Rattle.env_subst.proofs.Doing.{leads_too}
use Rattle.env_subst.proofs.CallSteps.{parted, cannot_part}
use Rattle.env_subst.proofs.calls.put_between.Goals as goal

pub returns-in_err-put_parting : goal.returns-in_err-put_parting
returns-in_err-put_parting c =
    let l = c.args.setting.now.locals.now in
    let w = setting_of c.args.setting.now in
    let d = c.args.desk.now in
    let p = err_from_is_err_and c.from_residual.result c.from_residual.ensures.1 in
    rw (p.1, p.2) (λ h. cannot_part w (tasks_of l d.tasks.tasks.items) d.names d.pieces d.references c.args.call _
    (affixed w (deeper_of w d.names) d.names c.args.call (does w d.names (plain l c.args.middle))) ((c.in_err-put_parting.ensures {u = tt}).fault h))

pub returns : goal.returns
returns c =
    let l = c.args.setting.now.locals.now in
    let w = setting_of c.args.setting.now in
    let d = c.args.desk.now in
    leads_too w _ _ (desk_of l c.affix.new.desk) c.affix.result
    (parted w (tasks_of l d.tasks.tasks.items) d.names d.pieces c.put_parting.new.pieces d.references c.args.call
    (affixed w (deeper_of w d.names) d.names c.args.call (does w d.names (plain l c.args.middle))) (c.in_ok-put_parting.ensures {u = tt}).ok)
    c.affix.ensures
