use Rattle.std.specs.Prelude.{string_bytes}
use Rattle.std.proofs.lemmas.Result.{err_from_is_err_and}
use Rattle.env_pieces.specs.Forms.{shown}
use Rattle.env_subst.specs.Settings.{setting}
use Rattle.env_subst.specs.Results.{expansion}
use Rattle.env_subst.proofs.Shown.{not_read, has_form}
use Rattle.env_subst.proofs.substitution.subst.Goals as goal

pub returns-in_err-pieces-clause-fault : goal.returns-in_err-pieces-clause-fault
returns-in_err-pieces-clause-fault c =
    let w = setting c.args.envs.now c.args.env.0 c.args.locals.now in
    let p = err_from_is_err_and c.from_residual.result c.from_residual.ensures.1 in
    rw (p.1, p.2) (λ h. not_read (shown c.args.mode) (expansion w c.args.text.now) _ ((c.in_err-pieces.ensures {u = tt}).fault h))

pub returns-in-Ok-clause-form : goal.returns-in-Ok-clause-form
returns-in-Ok-clause-form c =
    let w = setting c.args.envs.now c.args.env.0 c.args.locals.now in
    has_form (shown c.args.mode) (expansion w c.args.text.now) c.in_ok-pieces.pieces.items c.as_slice.result.now (string_bytes c.in-Ok.form)
    (c.in_ok-pieces.ensures {u = tt}).pieces c.as_slice.ensures.value (c.in-Ok.ensures {u = tt}).shown
