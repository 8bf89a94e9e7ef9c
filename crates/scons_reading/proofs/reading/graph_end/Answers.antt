use Rattle.scons_host.specs.SoFar.{so_far}
use Rattle.scons_reading.proofs.Overs.{graph_ended}
use Rattle.scons_reading.proofs.reading.graph_end.Goals as goal

pub returns-clause-causes : goal.returns-clause-causes
returns-clause-causes g c = λ out.
    let m = g.W.Disk.meaning in
    c.ended_by.ensures.cause (m.counts c.args.world.now) (m.counts c.graph_of.new.world) out c.graph_of.ensures.cause

pub returns-clause-graph : goal.returns-clause-graph
returns-clause-graph g c = λ f s. graph_ended f (so_far c.args.state) c.graph_of.result c.ended_by.result c.ended_by.ensures.end (c.graph_of.ensures.ok f s) (c.graph_of.ensures.fault f s)
