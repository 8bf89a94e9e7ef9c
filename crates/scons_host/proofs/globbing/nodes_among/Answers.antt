use Rattle.scons_decls.specs.State.{declared_of}
use Rattle.scons_host.proofs.Ordered.{all_globbed, none_globbed}
use Rattle.scons_host.proofs.globbing.nodes_among.Goals as goal

pub returns-clause-ok : goal.returns-clause-ok
returns-clause-ok c =
    all_globbed (declared_of c.args.state.now.declared) c.args.env.0 c.args.pattern.now c.args.files.now c.glob.result c.glob.ensures.ok

pub returns-clause-fault : goal.returns-clause-fault
returns-clause-fault c =
    none_globbed (declared_of c.args.state.now.declared) c.args.env.0 c.args.pattern.now c.args.files.now c.glob.result c.glob.ensures.fault
