use Rattle.std.proofs.Common.{rules, refl, subst}
use Rattle.py_tree.specs.Tree.{script_tree}
use Rattle.py_eval.specs.Answers.{IsFound}
use Rattle.py_heap.specs.Units.{Units}
use Rattle.scons_host.specs.ReadingRules.{reading_rules}
use Rattle.scons_host.specs.Saying.{saying}
use Rattle.scons_host.specs.Seeing.{seen_of, held_of, host_meaning}
use Rattle.scons_host.specs.SoFar.{so_far}
use Rattle.scons_reading.specs.Reads.{begun_of}
use Rattle.scons_reading.proofs.Carrying.{run_caused, run_given}
use Rattle.scons_reading.proofs.Coming.{run_came}
use Rattle.scons_reading.proofs.Overs.{over_given}
use Rattle.scons_reading.proofs.running.run_kept.Goals as goal

pub returns-clause-cause : goal.returns-clause-cause
returns-clause-cause g c =
    let m = g.W.Disk.meaning in
    let p = g.O.Sink.meaning in
    let e = c.run.ensures in
    let host = c.run.new.host in
    let caused = run_caused m p reading_rules seen_of held_of (script_tree c.args.script.now) c.args.heap c.new.result _ host c.run.result e.found e.keeps.1 in
    run_given m p _ host _ _ _ c.run.result (search rules) (search rules) (search rules) caused

pub returns-clause-came : goal.returns-clause-came
returns-clause-came g c =
    let m = g.W.Disk.meaning in
    let p = g.O.Sink.meaning in
    let e = c.run.ensures in
    let host = c.run.new.host in
    let t = script_tree c.args.script.now in
    over_given m p c.args.world.now c.args.out.now host _ _ _ _ c.run.result (begun_of t (so_far c.args.state.now) c.args.heap) (search rules) (search rules) (search rules) (search rules)
    (λ told f s. run_came m p f t c.args.heap (record { world = c.args.world.now; out = c.args.out.now; state = so_far c.args.state.now; kept = c.args.kept.now }) (seen_of host) c.requires
    (record { tells = s.tells; told = told; quiet = s.quiet; shows = s.shows }) seen_of held_of c.new.result _ host c.run.result c.new.ensures refl refl e.keeps.1 e.found)
