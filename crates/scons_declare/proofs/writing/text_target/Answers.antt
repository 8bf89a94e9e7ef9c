use Rattle.std.specs.Prelude.{[], codes}
use Rattle.scons_decls.specs.State.{declared_of}
use Rattle.scons_declare.specs.Affixes.{affixes, named}
use Rattle.scons_declare.specs.Writes.{text_target}
use Rattle.scons_declare.proofs.Stops.{last_stops}
use Rattle.scons_declare.proofs.writing.text_target.Goals as goal

pub returns-clause-fault : goal.returns-clause-fault
unfolding text_target
returns-clause-fault c =
    let d = declared_of c.args.state.now in
    let env = c.args.site.env.0 in
    last_stops (affixes d env [] (codes ".txt")) _ (λ a. named d env (codes "Textfile") a c.args.target.now) c.named_path.result (c.in_ok-affixes.ensures {u = tt}).ok c.named_path.ensures.fault
