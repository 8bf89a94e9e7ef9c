use Rattle.std.proofs.lemmas.Result.{err_from_is_err_and}
use Rattle.std.specs.Prelude.{Ok, codes}
use Rattle.env_pieces.specs.declared.form.Mode.TheVariants as mode
use Rattle.scons_decls.specs.Environs.{expanded}
use Rattle.scons_decls.specs.State.{declared_of}
use Rattle.scons_declare.specs.Affixes.{affixes}
use Rattle.scons_declare.specs.Linking.{object_affixes}
use Rattle.scons_declare.proofs.Stops.{third_stops}
use Rattle.scons_declare.proofs.objects.linking_of.Goals as goal

pub returns-in_err-lib_suffix-clause-fault : goal.returns-in_err-lib_suffix-clause-fault
returns-in_err-lib_suffix-clause-fault c =
    let d = declared_of c.args.state.now in
    let site = c.args.site in
    let target = affixes d site.env.0 c.args.prefix.now c.args.suffix.now in
    let lib_suffix = expanded d.envs d.locals site.env.0 mode.Text (codes "$LIBSUFFIX") in
    let p = err_from_is_err_and c.from_residual-in_err-lib_suffix.result c.from_residual-in_err-lib_suffix.ensures.1 in
    rw (p.1, p.2)
    (λ n. third_stops target (object_affixes d site) lib_suffix _ _ _ (λ t o l. Ok (record { target = t; object = o; lib_suffix = l })) (c.in_ok-target.ensures {u = tt}).ok (c.in_ok-object.ensures {u = tt}).ok ((c.in_err-lib_suffix.ensures {u = tt}).fault n))
