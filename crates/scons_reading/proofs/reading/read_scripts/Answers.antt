use Rattle.std.proofs.Common.{refl}
use Rattle.world_api.proofs.Looking.{files_joined}
use Rattle.scons_host.specs.Causes.{outside}
use Rattle.scons_host.specs.Laws.{counts_same, cause_back, end_caused}
use Rattle.scons_reading.proofs.Overs.{over_next, over_look, read_from, read_not}
use Rattle.scons_reading.proofs.reading.read_scripts.Goals as goal

pub returns-in-Ok-clause-looks : goal.returns-in-Ok-clause-looks
returns-in-Ok-clause-looks g c = files_joined g.W.Disk.meaning _ _ _ c.begun.ensures.looks c.read_on.ensures.looks

pub returns-in-Ok-clause-causes : goal.returns-in-Ok-clause-causes
returns-in-Ok-clause-causes g c =
    let m = g.W.Disk.meaning in
    let p = g.O.Sink.meaning in
    let out = c.args.out.now in
    let same = counts_same (m.counts c.args.world.now) (m.counts c.begun.new.world) (p.faults out) (p.faults out) c.in-Ok.ensures.cause refl in
    cause_back (outside m p c.args.world.now out) (outside m p c.begun.new.world out) (outside m p c.read_on.new.world c.read_on.new.out) c.read_on.result same c.read_on.ensures.causes

pub returns-in-Err-clause-causes : goal.returns-in-Err-clause-causes
returns-in-Err-clause-causes g c =
    let m = g.W.Disk.meaning in
    end_caused (m.counts c.args.world.now) (m.counts c.begun.new.world) (g.O.Sink.meaning.faults c.args.out.now) c.in-Err.stop c.end_of.result c.end_of.ensures.cause c.in-Err.ensures.cause

pub returns-in-Ok-clause-reads : goal.returns-in-Ok-clause-reads
returns-in-Ok-clause-reads g c =
    over_next g.W.Disk.meaning g.O.Sink.meaning c.args.world.now c.begun.new.world c.read_on.new.world c.args.out.now c.read_on.new.out _ _ _ c.begun.ensures.looks c.read_on.ensures.looks
    c.in-Ok.ensures.ok c.read_on.ensures.reads (λ f text begins on. read_from f c.args.words.now _ text c.read_on.result begins on)

pub returns-in-Err-clause-reads : goal.returns-in-Err-clause-reads
returns-in-Err-clause-reads g c =
    over_look g.W.Disk.meaning g.O.Sink.meaning c.args.world.now c.begun.new.world c.args.out.now _ _ c.in-Err.ensures.fault
    (λ f not. read_not f c.args.words.now c.in-Err.stop c.end_of.result c.end_of.ensures.told c.end_of.ensures.end not)
