use Rattle.std.proofs.lemmas.Result.{err_from_is_err_and}
use Rattle.env_subst.specs.Settings.{setting_of}
use Rattle.env_subst.specs.Sayings.{sayings_of}
use Rattle.env_subst.specs.Desks.{tasks_of, desk_of}
use Rattle.env_subst.proofs.Doing.{says_more_fails, says_further, says_no_more}
use Rattle.env_subst.proofs.reading.say_more.Goals as goal

pub returns-in_err-put-in-Some : goal.returns-in_err-put-in-Some
returns-in_err-put-in-Some c =
    let l = c.args.setting.now.locals.now in
    let d = c.args.desk.now in
    let p = err_from_is_err_and c.from_residual-in_err-put-in-Some.result c.from_residual-in_err-put-in-Some.ensures.1 in
    rw (p.1, p.2) (λ h. says_more_fails (setting_of c.args.setting.now) (tasks_of l d.tasks.tasks.items) d.names d.pieces d.references c.args.name
    (sayings_of l c.args.sayings) c.in-Some.first.saying (sayings_of l c.in-Some.first.rest) _ (rw c.in-Some.is at (c.in_ok-first.ensures {u = tt}))
    ((c.in_err-put-in-Some.ensures {u = tt}).fault h))

pub returns-in_ok-put-in-Some : goal.returns-in_ok-put-in-Some
returns-in_ok-put-in-Some c =
    let l = c.args.setting.now.locals.now in
    let d = c.args.desk.now in
    says_further (setting_of c.args.setting.now) (tasks_of l d.tasks.tasks.items) d.names d.references (desk_of l c.say_first.new.desk) c.args.name c.say_first.result
    c.in-Some.first.saying (sayings_of l c.in-Some.first.rest) (sayings_of l c.args.sayings) d.pieces c.put.new.pieces
    (rw c.in-Some.is at (c.in_ok-first.ensures {u = tt})) (c.in_ok-put-in-Some.ensures {u = tt}).ok c.say_first.ensures

pub returns-in-None : goal.returns-in-None
returns-in-None c =
    let l = c.args.setting.now.locals.now in
    says_no_more (setting_of c.args.setting.now) (desk_of l c.args.desk.now) c.args.name (sayings_of l c.args.sayings) (rw c.in-None.is at (c.in_ok-first.ensures {u = tt}))
