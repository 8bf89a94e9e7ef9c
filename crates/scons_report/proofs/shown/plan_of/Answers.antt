use Rattle.world_api.specs.declared.hash.Hash.TheVariants.{Md5}
use Rattle.scons_report.proofs.Showing.{begins_behind, outset_behind, shown_by, shown_same, with_hash}
use Rattle.scons_report.proofs.shown.plan_of.Goals as goal

pub returns-clause-plans : goal.returns-clause-plans
returns-clause-plans g c = λ tells below b behind.
    let m = g.W.Disk.meaning in
    let graph = c.args.graph.now in
    let old = m.around c.args.world.now in
    let first = c.over-inputs.ensures in
    let truth = first.truth (with_hash b Md5) old (begins_behind b Md5 graph c.args.declared old behind) in
    let over = c.in_ok-plan.ensures.over tells below (with_hash b Md5) old.tree
    (outset_behind (with_hash b Md5) graph c.over-inputs.result old truth first.unmarked behind.idle first.gone) in
    let held = over.0.ties.plan_for in
    let finished = c.finishes.ensures over.1 over.0.well c.in-None.ensures.none held.met held.from held.fits in
    shown_same b Md5 old.tree c.plan_over.new.graph c.args.nodes.now c.in_ok-plan.plan
    (shown_by (with_hash b Md5) c.args.nodes.now old.tree c.plan_over.new.graph c.plan_over.new.inputs c.in_ok-plan.plan (m.around c.plan_over.new.world) over.0 finished)
