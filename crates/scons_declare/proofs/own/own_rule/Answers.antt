use Rattle.scons_decls.specs.State.{declared_of}
use Rattle.scons_declare.specs.Calls.{nodes_in}
use Rattle.scons_declare.specs.Owns.{naming_of, own_declared}
use Rattle.scons_declare.proofs.Stops.{last_stops}
use Rattle.scons_declare.proofs.own.own_rule.Goals as goal

pub returns-clause-fault : goal.returns-clause-fault
returns-clause-fault c =
    let d = declared_of c.args.state.now in
    last_stops (naming_of d c.args.site c.args.builder) _ (λ n. own_declared d c.args.site n c.args.builder c.args.name.now (nodes_in c.args.targets) c.args.sources.now) c.declare_own.result (c.in_ok-naming.ensures {u = tt}).ok c.declare_own.ensures.fault
