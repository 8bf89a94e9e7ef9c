use Rattle.world_api.proofs.Looking.{looks_joined}
use Rattle.build_files.proofs.Marking.{over_none}
use Rattle.scons_report.proofs.Found.{below_grown}
use Rattle.scons_report.proofs.Going.{begins_over}
use Rattle.scons_report.proofs.over.plan_over.Goals as goal

pub returns-in_err-scan_all-clause-looks : goal.returns-in_err-scan_all-clause-looks
returns-in_err-scan_all-clause-looks g c = looks_joined g.W.Disk.meaning _ _ _ c.add_copies.ensures.looks c.scan_all.ensures.looks

pub returns-clause-looks : goal.returns-clause-looks
returns-clause-looks g c = looks_joined g.W.Disk.meaning _ _ _ c.add_copies.ensures.looks c.scan_all.ensures.looks

pub returns-clause-over : goal.returns-clause-over
returns-clause-over g c = λ tells below b t is.
    let m = g.W.Disk.meaning in
    let copies = c.add_copies.ensures in
    let plan = c.in_ok-plan.ensures in
    let ok = c.in_ok-scan_all.ensures in
    let mid = c.scan_all.ensures.looks.told.told tells in
    let first = c.args.inputs.now in
    let over = ok.over tells b c.args.nodes.now t
    (begins_over b c.args.nodes.now t c.args.graph.now c.add_copies.new.graph first c.add_copies.new.self c.in_ok-plan.plan (m.around c.args.world.now)
    (m.around c.add_copies.new.world) is (copies.looks.around mid)
    (record { apart = c.laws.ensures.apart; single = c.laws.ensures.single; named = c.laws.ensures.named }) c.laws.ensures.room copies.gone
    (copies.truth mid b is.truth) (c.in_ok-add_copies.ensures.looked (over_none c.args.graph.now first is.unmarked))
    (below_grown c.args.graph.now c.add_copies.new.graph c.args.nodes.now copies.grows below)
    (record {
      states = plan.states;
      halted = plan.halted;
      knows = plan.knows;
      fits = plan.fits;
      follow = plan.follow;
      from = plan.origins;
      met = plan.needs;
      only = plan.only;
      sought = plan.sought;
      complete = plan.complete;
      roots = plan.roots;
      order = plan.order;
    })) in
    (over, ok.still over.goes over.ties.plan_for.complete)
