use Rattle.std.proofs.Common.{◌∙◌, List, ap, subst, sym}
use Rattle.scons_base.specs.declared.ids.RuleId.{RuleId}
use Rattle.world_api.proofs.Looking.{looks_joined}
use Rattle.sign_store.specs.Stores.{map_of_view}
use Rattle.build_means.specs.Rules.{IsReading}
use Rattle.build_files.specs.Kept.{stamp_past}
use Rattle.scons_report.specs.Dry.{begun_past}
use Rattle.scons_report.specs.Overs.{IsPlannedOrder}
use Rattle.scons_report.proofs.Drying.{outset, ready_first}
use Rattle.scons_report.proofs.Ending.{exit_cause, inside_exit}
use Rattle.scons_report.proofs.dry.dry_list.Goals as goal

pub returns-in_err-plan-clause-looks : goal.returns-in_err-plan-clause-looks
returns-in_err-plan-clause-looks g c = looks_joined g.W.Disk.meaning _ _ _ c.paths_gone.ensures.looks c.plan_over.ensures.looks

pub returns-in_err-order-clause-looks : goal.returns-in_err-order-clause-looks
returns-in_err-order-clause-looks g c = looks_joined g.W.Disk.meaning _ _ _ c.paths_gone.ensures.looks c.plan_over.ensures.looks

pub returns-in_err-order-clause-cause : goal.returns-in_err-order-clause-cause
returns-in_err-order-clause-cause g c =
    let r = c.from_residual-in_err-order in
    inside_exit _ _ r.result (c.in_ok-plan.ensures.cause ∙ c.in_ok-gone.ensures.cause) r.ensures.1

pub returns-in_err-rules-clause-looks : goal.returns-in_err-rules-clause-looks
returns-in_err-rules-clause-looks g c =
    let m = g.W.Disk.meaning in
    looks_joined m _ _ _ (looks_joined m _ _ _ c.paths_gone.ensures.looks c.plan_over.ensures.looks) c.list_all.ensures.looks

pub returns-in_err-rules-clause-cause : goal.returns-in_err-rules-clause-cause
returns-in_err-rules-clause-cause g c =
    let r = c.from_residual-in_err-rules in
    exit_cause _ _ _ _ r.result (c.in_ok-plan.ensures.cause ∙ c.in_ok-gone.ensures.cause) c.in_err-rules.ensures.cause r.ensures.1

pub returns-in-Some-clause-looks : goal.returns-in-Some-clause-looks
returns-in-Some-clause-looks g c =
    let m = g.W.Disk.meaning in
    looks_joined m _ _ _ (looks_joined m _ _ _ c.paths_gone.ensures.looks c.plan_over.ensures.looks) c.list_all.ensures.looks

pub returns-clause-looks : goal.returns-clause-looks
returns-clause-looks g c =
    let m = g.W.Disk.meaning in
    looks_joined m _ _ _ (looks_joined m _ _ _ c.paths_gone.ensures.looks c.plan_over.ensures.looks) c.list_all.ensures.looks

pub returns-clause-ok : goal.returns-clause-ok
returns-clause-ok g c = λ tells idle below own.
    let m = g.W.Disk.meaning in
    let graph = c.args.graph.now in
    let hash = c.args.hash in
    let kept = map_of_view c.args.view.now in
    let old = m.around c.args.world.now in
    let over_told = c.list_all.ensures.looks.told.told tells in
    let gone_told = c.plan_over.ensures.looks.told.told over_told in
    let gone = c.in_ok-gone.gone.keys in
    let are = c.in_ok-gone.ensures.gone gone_told idle in
    let asks = c.paths_gone.ensures.looks.around gone_told in
    let reading : IsReading graph = record { apart = c.laws.ensures.apart; single = c.laws.ensures.single; named = c.laws.ensures.named } in
    let first = c.past-inputs.ensures in
    let start = begun_past graph hash old gone in
    let mid = m.around c.paths_gone.new.world in
    let over = c.in_ok-plan.ensures.over over_told below start start.tree
    (outset graph reading hash kept gone old mid idle asks are c.past-inputs.result first.gone first.truth first.unmarked) in
    let held = over.0.ties.plan_for in
    let finished = c.finishes.ensures over.1 over.0.well c.in-None.ensures.none held.met held.from held.fits in
    let looks = looks_joined m _ _ _ c.paths_gone.ensures.looks c.plan_over.ensures.looks in
    let ready = ready_first graph reading hash kept gone old mid idle asks are c.args.requested.now c.plan_over.new.graph c.plan_over.new.inputs c.in_ok-plan.plan
    (m.around c.plan_over.new.world) (looks.around over_told) (ap (λ x. x.keys) c.plan_over.ensures.gone ∙ first.gone) over.0 finished in
    let order = subst (λ (l : List RuleId). IsPlannedOrder c.plan_over.new.graph c.in_ok-plan.plan c.args.requested.now l) (sym c.as_slice.ensures.value)
    c.in_ok-order.ensures in
    record {
      gone = gone;
      are_gone = are;
      list = c.in_ok-rules.ensures.lists tells own start c.args.requested.now (stamp_past gone old) ready order;
    }
