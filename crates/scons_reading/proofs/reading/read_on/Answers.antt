use Rattle.scons_reading.proofs.Overs.{over_map, over_then, graph_read, stop_read}
use Rattle.world_api.proofs.Looking.{files_joined}
use Rattle.scons_host.specs.Causes.{outside}
use Rattle.scons_host.specs.Laws.{cause_back}
use Rattle.scons_reading.proofs.reading.read_on.Goals as goal

pub returns-in-Ok-clause-looks : goal.returns-in-Ok-clause-looks
returns-in-Ok-clause-looks g c = files_joined g.W.Disk.meaning _ _ _ c.run_all.ensures.looks c.graph_end.ensures.looks

pub returns-in-Ok-clause-causes : goal.returns-in-Ok-clause-causes
returns-in-Ok-clause-causes g c =
    let m = g.W.Disk.meaning in
    let p = g.O.Sink.meaning in
    let ran = c.run_all.new in
    cause_back (outside m p c.args.world.now c.args.out.now) (outside m p ran.world ran.out) (outside m p c.graph_end.new.world ran.out) c.graph_end.result c.in-Ok.ensures.causes (c.graph_end.ensures.causes (p.faults ran.out))

pub returns-in-Ok-clause-reads : goal.returns-in-Ok-clause-reads
returns-in-Ok-clause-reads g c =
    over_then g.W.Disk.meaning g.O.Sink.meaning c.args.world.now c.run_all.new.world c.graph_end.new.world c.args.out.now c.run_all.new.out _ _ _ c.run_all.ensures.looks c.graph_end.ensures.looks
    c.in-Ok.ensures.ended c.graph_end.ensures.graph (λ f text ran graph. graph_read f _ _ text c.graph_end.result ran graph)

pub returns-in-Err-clause-reads : goal.returns-in-Err-clause-reads
returns-in-Err-clause-reads g c =
    over_map g.W.Disk.meaning g.O.Sink.meaning c.args.world.now c.run_all.new.world c.args.out.now c.run_all.new.out _ _ (λ f text is. stop_read f _ text c.in-Err.end is) c.in-Err.ensures.ended
