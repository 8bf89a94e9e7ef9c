use Rattle.scons_host.proofs.Stopping.{fault_in}
use Rattle.scons_host.specs.SoFar.{so_far}
use Rattle.scons_host.proofs.declaring.answer.Goals as goal

pub returns-clause-fault : goal.returns-clause-fault
returns-clause-fault c = fault_in (so_far c.args.state.now) c.args.place c.place_of.result c.args.env.0 c.args.call c.declare.result c.place_of.ensures c.declare.ensures.fault
