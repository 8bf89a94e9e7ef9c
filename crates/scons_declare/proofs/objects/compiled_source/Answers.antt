use Rattle.std.proofs.lemmas.Result.{err_from_is_err_and}
use Rattle.std.specs.Prelude.{[], codes}
use Rattle.scons_decls.specs.State.{declared_of}
use Rattle.scons_declare.specs.Affixes.{affixes, named}
use Rattle.scons_declare.specs.Linking.{compiled}
use Rattle.scons_declare.proofs.Stops.{second_stops}
use Rattle.scons_declare.proofs.objects.compiled_source.Goals as goal

pub returns-in_err-path-clause-fault : goal.returns-in_err-path-clause-fault
returns-in_err-path-clause-fault c =
    let d = declared_of c.args.state.now in
    let env = c.args.site.env.0 in
    let p = err_from_is_err_and c.from_residual-in_err-path.result c.from_residual-in_err-path.ensures.1 in
    rw (p.1, p.2)
    (λ n. second_stops (affixes d env [] (codes ".c")) _ _ (λ a. named d env (codes "Object") a c.args.source.now) compiled (c.in_ok-c.ensures {u = tt}).ok ((c.in_err-path.ensures {u = tt}).fault n))
