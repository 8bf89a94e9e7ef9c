use Rattle.std.proofs.Common.{Ok, Err, IfOk, IfErr, ap, subst}
use Rattle.scons_host.specs.Shown.{IsTold}
use Rattle.scons_decls.specs.State.{Declared}
use Rattle.scons_rules.specs.PathGraphs.{graph_by}
use Rattle.scons_rules.specs.Readings.{Reading}
use Rattle.scons_reading.specs.Graphs.{Graphs}
use Rattle.scons_reading.proofs.Putting.{graph_ok, graph_stop}
use Rattle.scons_reading.proofs.rules.graph_of.Goals as goal

pub returns-clause-cause : goal.returns-clause-cause
returns-clause-cause g c =
    let m = g.W.Disk.meaning in
    c.finished.ensures.cause (m.counts c.args.world.now) (m.counts c.add_all-added.new.world) c.add_all-added.ensures.cause

pub returns-clause-ok : goal.returns-clause-ok
returns-clause-ok g c = λ f s.
    subst (λ (d : Declared). IfOk c.finished.result (λ x. Graphs f d c.args.scripts.now (Ok (graph_by x)))) (ap (λ (r : Reading). r.declared) c.in_ok-reading.ensures)
    (graph_ok f c.in_ok-reading.reading.declared c.add_all-added.new.reading.declared c.args.scripts.now c.add_all-added.result c.add_all-added.new.reading.graph c.finished.result
    c.add_all-added.ensures.rest c.finished.ensures.ok (c.add_all-added.ensures.ok f s))

pub returns-clause-fault : goal.returns-clause-fault
returns-clause-fault g c = λ f s.
    subst (λ (d : Declared). IfErr c.finished.result (λ e. IsTold e → Graphs f d c.args.scripts.now (Err e))) (ap (λ (r : Reading). r.declared) c.in_ok-reading.ensures)
    (graph_stop f c.in_ok-reading.reading.declared c.add_all-added.new.reading.declared c.args.scripts.now c.add_all-added.result c.add_all-added.new.reading.graph c.finished.result
    c.add_all-added.ensures.rest c.finished.ensures.fault (c.add_all-added.ensures.ok f s) (c.add_all-added.ensures.fault f s))
