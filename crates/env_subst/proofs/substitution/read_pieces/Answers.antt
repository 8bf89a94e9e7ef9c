use Rattle.std.proofs.Common.{refl}
use Rattle.std.proofs.lemmas.Result.{err_from_is_err_and}
use Rattle.env_subst.specs.Settings.{setting_of}
use Rattle.env_subst.specs.Desks.{desk_of}
use Rattle.env_subst.proofs.Runs.{begins_badly, is_read, is_not_read}
use Rattle.env_subst.proofs.substitution.read_pieces.Goals as goal

pub returns-in_err-begin-clause-read : goal.returns-in_err-begin-clause-read
returns-in_err-begin-clause-read c =
    let l = c.args.setting.now.locals.now in
    let w = setting_of c.args.setting.now in
    let p = err_from_is_err_and c.from_residual-in_err-begin.result c.from_residual-in_err-begin.ensures.1 in
    rw (p.1, p.2) (λ h. begins_badly w (desk_of l c.in_ok-desk.desk) c.args.names c.args.names c.args.references c.args.owner c.args.text c.args.owner c.args.text
    ((c.in_ok-desk.ensures {u = tt}) l) refl refl refl _ ((c.in_err-begin.ensures {u = tt}) h))

pub returns-in_err-run-clause-read : goal.returns-in_err-run-clause-read
returns-in_err-run-clause-read c =
    let l = c.args.setting.now.locals.now in
    let w = setting_of c.args.setting.now in
    let p = err_from_is_err_and c.from_residual-in_err-run.result c.from_residual-in_err-run.ensures.1 in
    rw (p.1, p.2) (λ h. is_not_read w (desk_of l c.in_ok-desk.desk) c.args.names c.args.names c.args.references c.args.owner c.args.text c.args.owner c.args.text
    ((c.in_ok-desk.ensures {u = tt}) l) refl refl refl
    (desk_of l c.begin.new.desk) _ (c.in_ok-begin.ensures {u = tt}) ((c.in_err-run.ensures {u = tt}) h))

pub returns-clause-read : goal.returns-clause-read
returns-clause-read c =
    let l = c.args.setting.now.locals.now in
    let w = setting_of c.args.setting.now in
    let d = c.run.new.desk in
    (is_read w (desk_of l c.in_ok-desk.desk) c.args.names c.args.names c.args.references c.args.owner c.args.text c.args.owner c.args.text
    ((c.in_ok-desk.ensures {u = tt}) l) refl refl refl
    (desk_of l c.begin.new.desk) d.names (record { sheet = d.pieces; references = d.references }) (c.in_ok-begin.ensures {u = tt}) (c.in_ok-run.ensures {u = tt})).0

pub returns-clause-names : goal.returns-clause-names
returns-clause-names c =
    let l = c.args.setting.now.locals.now in
    let w = setting_of c.args.setting.now in
    let d = c.run.new.desk in
    (is_read w (desk_of l c.in_ok-desk.desk) c.args.names c.args.names c.args.references c.args.owner c.args.text c.args.owner c.args.text
    ((c.in_ok-desk.ensures {u = tt}) l) refl refl refl
    (desk_of l c.begin.new.desk) d.names (record { sheet = d.pieces; references = d.references }) (c.in_ok-begin.ensures {u = tt}) (c.in_ok-run.ensures {u = tt})).1
