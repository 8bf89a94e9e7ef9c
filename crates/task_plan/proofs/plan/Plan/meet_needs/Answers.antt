use Rattle.std.proofs.Common.{arith, ◌≡◌, ◌≤◌, ◌∙◌, Some, None, ap, length, refl, sym}
use Rattle.std.specs.Prelude.{slice_get}
use Rattle.task_plan.proofs.PlanLemmas.{meets_same, meets_trans}
use Rattle.task_plan.proofs.MetLemmas.{room_still, finds_nothing, finds_next, finds_all, finds_end}
use Rattle.task_plan.proofs.AdmitLemmas.{widens_same, brings_none, brings_then}
use Rattle.task_plan.proofs.ListLemmas.{none_past}
use Rattle.task_plan.proofs.LeaveLemmas.{order_same, order_trans}
use Rattle.task_plan.proofs.WatchMeets.{brings_watch_same, brings_watch_then, leaves_same, leaves_then, hears_none, hears_next, hears_all}
use Rattle.task_plan.specs.Met.{needs_at}
use Rattle.task_plan.specs.Admits.{none}
use Rattle.task_plan.proofs.MetNeeds.{stands_at}
use Rattle.task_plan.proofs.OtherLemmas.{others_same, others_more}
use Rattle.task_plan.proofs.plan.Plan.meet_needs.Goals as goal

pub loop-place-init : goal.loop-place-init
loop-place-init c =
    let g = c.args.graph.now in
    let a = c.args.self.now in
    record {
      meets = meets_same a;
      finds = finds_nothing g a (needs_at a.rules c.args.rule.0);
      rules = refl;
      room = c.requires;
      brings = brings_none g a a c.args.needed.now.items c.args.needed.now.items (widens_same a a refl) refl;
      watch = brings_watch_same a c.args.needed.now.items;
      leaves = leaves_same a;
      order = order_same a;
      hears = hears_none g a a c.args.rule.0;
      others = others_same g a a (needs_at a.rules c.args.rule.0) c.args.needed.now.items refl refl;
    }

pub loop-place-preserved : goal.loop-place-preserved
loop-place-preserved c =
    let g = c.args.graph.now in
    let i = c.loop-place.invariant in
    let a = c.args.self.now in
    let b = c.loop-place.self in
    let d = c.meet_need.new.self in
    let k = c.in_ok-meet_need.ensures in
    let needs = needs_at a.rules c.args.rule.0 in
    let at : slice_get needs c.loop-place.place ≡ Some c.in-Some.node = ap (λ y. slice_get (needs_at y c.args.rule.0) c.loop-place.place) (sym i.rules) ∙ sym c.in-Some.ensures in
    record {
      meets = meets_trans a b d i.meets c.meet_need.ensures.meets;
      finds = finds_next g a b d needs c.loop-place.place c.in-Some.node at i.finds k.brings.admits.keeps k.finds;
      rules = c.meet_need.ensures.rules ∙ i.rules;
      room = room_still g b d i.room k.brings.admits.keeps;
      brings = brings_then g a b d none c.args.needed.now.items c.loop-place.needed.items c.meet_need.new.needed.items i.brings k.brings;
      watch = brings_watch_then a b d c.args.needed.now.items c.loop-place.needed.items c.meet_need.new.needed.items i.watch k.watch;
      leaves = leaves_then a b d i.leaves c.meet_need.ensures.leaves;
      order = order_trans a b d i.order k.order;
      hears = hears_next g a b d c.args.rule.0 needs c.loop-place.place c.in-Some.node c.args.needed.now.items c.loop-place.needed.items c.meet_need.new.needed.items at i.hears i.watch k.watch k.hears;
      others =
          others_more g a b d needs c.in-Some.node c.args.needed.now.items c.loop-place.needed.items c.meet_need.new.needed.items (stands_at needs c.loop-place.place c.in-Some.node at) i.others k.others;
    }

pub returns-in_default-clause-finds : goal.returns-in_default-clause-finds
returns-in_default-clause-finds c =
    let i = c.loop-place.invariant in
    let a = c.args.self.now in
    let needs = needs_at a.rules c.args.rule.0 in
    let at : slice_get needs c.loop-place.place ≡ None = ap (λ y. slice_get (needs_at y c.args.rule.0) c.loop-place.place) (sym i.rules) ∙ sym c.in_default.ensures in
    finds_end c.args.graph.now a c.loop-place.self needs c.loop-place.place at i.finds

pub returns-clause-finds : goal.returns-clause-finds
returns-clause-finds c =
    let a = c.args.self.now in
    let needs = needs_at a.rules c.args.rule.0 in
    let past : length needs ≤ c.loop-place.place = omega (arith, c.need_count-place-end.ensures) in
    finds_all c.args.graph.now a c.loop-place.self needs c.loop-place.place past c.loop-place.invariant.finds

pub returns-in_default-clause-hears : goal.returns-in_default-clause-hears
returns-in_default-clause-hears c =
    let i = c.loop-place.invariant in
    let a = c.args.self.now in
    let needs = needs_at a.rules c.args.rule.0 in
    let at : slice_get needs c.loop-place.place ≡ None = ap (λ y. slice_get (needs_at y c.args.rule.0) c.loop-place.place) (sym i.rules) ∙ sym c.in_default.ensures in
    hears_all c.args.graph.now a c.loop-place.self c.args.rule.0 needs c.loop-place.place (none_past needs c.loop-place.place at) i.hears

pub returns-clause-hears : goal.returns-clause-hears
returns-clause-hears c =
    let a = c.args.self.now in
    let needs = needs_at a.rules c.args.rule.0 in
    let past : length needs ≤ c.loop-place.place = omega (arith, c.need_count-place-end.ensures) in
    hears_all c.args.graph.now a c.loop-place.self c.args.rule.0 needs c.loop-place.place past c.loop-place.invariant.hears
