use Rattle.std.proofs.lemmas.Result.{err_from_is_err_and}
use Rattle.env_pieces.specs.declared.form.Mode.TheVariants.{Text, Signed}
use Rattle.env_pieces.specs.Lines.{line_forms}
use Rattle.env_subst.specs.Settings.{setting}
use Rattle.env_subst.specs.Results.{expansion}
use Rattle.env_subst.proofs.Shown.{not_read, has_form}
use Rattle.env_subst.proofs.command.command_lines.Goals as goal

pub returns-in_err-pieces-clause-fault : goal.returns-in_err-pieces-clause-fault
returns-in_err-pieces-clause-fault c =
    let w = setting c.args.envs.now c.args.env.0 c.args.locals.now in
    let p = err_from_is_err_and c.from_residual.result c.from_residual.ensures.1 in
    rw (p.1, p.2) (λ h. not_read (line_forms Signed) (expansion w c.args.text.now) _ ((c.in_err-pieces.ensures {u = tt}).fault h))

pub returns-in-Ok-clause-plain : goal.returns-in-Ok-clause-plain
returns-in-Ok-clause-plain c =
    let w = setting c.args.envs.now c.args.env.0 c.args.locals.now in
    has_form (line_forms Text) (expansion w c.args.text.now) c.in_ok-pieces.pieces.items c.as_slice.result.now c.in_ok-plain.plain
    (c.in_ok-pieces.ensures {u = tt}).pieces c.as_slice.ensures.value (c.in_ok-plain.ensures {u = tt})

pub returns-in-Ok-clause-signed : goal.returns-in-Ok-clause-signed
returns-in-Ok-clause-signed c =
    let w = setting c.args.envs.now c.args.env.0 c.args.locals.now in
    has_form (line_forms Signed) (expansion w c.args.text.now) c.in_ok-pieces.pieces.items c.as_slice-2.result.now c.in-Ok.signed
    (c.in_ok-pieces.ensures {u = tt}).pieces c.as_slice-2.ensures.value (c.in-Ok.ensures {u = tt}).forms
