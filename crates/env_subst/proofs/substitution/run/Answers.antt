use Rattle.std.proofs.lemmas.Result.{err_from_is_err_and}
use Rattle.env_subst.specs.Settings.{setting_of}
use Rattle.env_subst.specs.Desks.{plain, tasks_of, desk_of, left_of}
use Rattle.env_subst.proofs.Runs.{run_ends, run_on, run_fails}
use Rattle.env_subst.proofs.substitution.run.Goals as goal

pub returns-in-None : goal.returns-in-None
returns-in-None c =
    let l = c.args.setting.now.locals.now in
    let w = setting_of c.args.setting.now in
    let d = c.tasks.desk in
    run_ends w (tasks_of l d.tasks.tasks.items) d.names d.pieces d.references (left_of w (desk_of l c.args.desk.now)) c.tasks.invariant ((c.in-None.ensures {u = tt}) l)

pub tasks-preserved : goal.tasks-preserved
tasks-preserved c =
    let l = c.args.setting.now.locals.now in
    let w = setting_of c.args.setting.now in
    let d = c.tasks.desk in
    run_on w (tasks_of l d.tasks.tasks.items) (tasks_of l c.pop.new.stack.tasks.items) d.names d.pieces d.references (left_of w (desk_of l c.args.desk.now)) (plain l c.in-Some.task)
    c.tasks.invariant ((c.in-Some.ensures {u = tt}) l) (desk_of l c.step.new.desk) (c.in_ok-step-in-Some.ensures {u = tt})

pub returns-in_err-step-in-Some : goal.returns-in_err-step-in-Some
returns-in_err-step-in-Some c =
    let l = c.args.setting.now.locals.now in
    let w = setting_of c.args.setting.now in
    let d = c.tasks.desk in
    let p = err_from_is_err_and c.from_residual.result c.from_residual.ensures.1 in
    rw (p.1, p.2) (λ h. run_fails w (tasks_of l d.tasks.tasks.items) (tasks_of l c.pop.new.stack.tasks.items) d.names d.pieces d.references (left_of w (desk_of l c.args.desk.now)) (plain l c.in-Some.task)
    c.tasks.invariant ((c.in-Some.ensures {u = tt}) l) _ ((c.in_err-step-in-Some.ensures {u = tt}) h))
