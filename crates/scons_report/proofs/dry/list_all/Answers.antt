use Rattle.std.proofs.Common.{◌≡◌, ◌<◌, ◌∙◌, List, refl, ap, sym, subst, take, length, arith, replicate, false, get_or}
use Rattle.std.proofs.lemmas.List.{get_or_default}
use Rattle.scons_base.specs.declared.ids.RuleId.{RuleId}
use Rattle.world_api.proofs.Looking.{looks_joined, looks_same}
use Rattle.sign_store.specs.Stores.{map_of_view}
use Rattle.build_means.specs.Records.{records_in}
use Rattle.scons_report.specs.Dry.{IsDryList}
use Rattle.scons_report.specs.Overs.{AreListed}
use Rattle.scons_report.proofs.Drying.{is_dry_list, is_needed, is_behind, none_listed, one_more, taken_all}
use Rattle.scons_report.proofs.dry.list_all.Goals as goal

pub loop-rule-init : goal.loop-rule-init
loop-rule-init g c =
    let graph = c.args.graph.now in
    record {
      looks = looks_same _ _;
      counts = refl;
      lists = λ tells own b requested stamps is o. (
        is,
        none_listed b b.tree stamps (records_in (map_of_view c.args.view.now)) graph _ c.new.ensures.items
            (c.in_ok-from_elem.ensures.items_if_clones_equal (λ y h. cc) ∙ ap (λ n. replicate n false) c.rules.ensures.len),
      );
    }

pub returns-in_err-look_at-clause-looks : goal.returns-in_err-look_at-clause-looks
returns-in_err-look_at-clause-looks g c = looks_joined g.W.Disk.meaning _ _ _ c.loop-rule.invariant.looks c.look_at.ensures.looks

pub loop-rule-preserved : goal.loop-rule-preserved
loop-rule-preserved g c =
    let m = g.W.Disk.meaning in
    let ok = c.in_ok-look_at.ensures in
    let was = c.loop-rule.invariant in
    let order = c.args.order.now in
    let place = c.loop-rule.rule-index in
    record {
      looks = looks_joined m _ _ _ was.looks c.look_at.ensures.looks;
      counts = ok.cause ∙ was.counts;
      lists = λ tells own b requested stamps is o.
          let mid = c.look_at.ensures.looks.told.told tells in
          let before = was.lists mid own b requested stamps is o in
          let rule : RuleId = get_or order place (record { 0 = 0 }) in
          let within : place < length order = omega (arith, c.loop-rule-test.true) in
          let item : rule ≡ get_or order place rule = get_or_default order place (record { 0 = 0 }) rule within in (
            c.look_at.ensures.ready tells b requested b.tree stamps before.0,
            subst (λ (front : List RuleId). AreListed b b.tree stamps (records_in (map_of_view c.args.view.now)) c.args.graph.now front c.look_at.new.listed)
                (one_more b requested stamps c.args.graph.now c.loop-rule.inputs c.args.plan.now (m.around c.loop-rule.world) before.0 order o place rule within item)
                (ok.lists tells own b requested b.tree stamps (take place order) before.0
                (is_needed b requested stamps c.args.graph.now c.loop-rule.inputs c.args.plan.now (m.around c.loop-rule.world) before.0 order o place rule within item)
                (is_behind b requested stamps c.args.graph.now c.loop-rule.inputs c.args.plan.now (m.around c.loop-rule.world) before.0 order o place rule within item)
                before.1),
          );
    }

pub returns-clause-lists : goal.returns-clause-lists
returns-clause-lists g c = λ tells own b requested stamps is o.
    let kept = records_in (map_of_view c.args.view.now) in
    let graph = c.args.graph.now in
    let order = c.args.order.now in
    let was = c.loop-rule.invariant.lists tells own b requested stamps is o in
    let all = taken_all order c.loop-rule.rule-index c.loop-rule-test.false in
    subst (λ (rules : List RuleId). IsDryList b graph stamps kept requested rules) (sym c.new-2.ensures)
    (is_dry_list b requested stamps kept graph c.loop-rule.inputs c.args.plan.now (g.W.Disk.meaning.around c.loop-rule.world) was.0 order o c.loop-rule.listed
    (subst (λ (front : List RuleId). AreListed b b.tree stamps kept graph front c.loop-rule.listed) all was.1))
