use Rattle.std.proofs.Common.{[], refl, sym}
use Rattle.task_plan.proofs.PlanLemmas.{meets_same, meets_trans}
use Rattle.task_plan.proofs.MetLemmas.{room_still, finds_same, finds_on}
use Rattle.task_plan.proofs.AdmitLemmas.{admits_first, admits_next, admits_end, rules_next, rule_in}
use Rattle.task_plan.proofs.LeaveLemmas.{order_same, order_trans}
use Rattle.task_plan.proofs.WatchMeets.{ends_none, ends_next, ends_end}
use Rattle.task_plan.specs.Admits.{queues}
use Rattle.task_plan.proofs.OtherLemmas.{adds_first, adds_next, adds_end}
use Rattle.task_plan.proofs.plan.Plan.admit.Goals as goal

pub loop-place-init : goal.loop-place-init
loop-place-init c = record {
  meets = meets_same c.args.self.now;
  rules = c.requires.rules;
  room = c.requires.room;
  order = order_same c.args.self.now;
  finds = finds_same c.args.graph.now c.args.self.now c.args.self.now refl;
  admits = admits_first c.args.graph.now c.args.self.now c.args.needed.items;
  watch = ends_none c.args.self.now c.args.needed.items;
  others = adds_first c.args.graph.now c.args.self.now c.args.needed.items;
}

pub admit_one-requires-clause-rule : goal.admit_one-requires-clause-rule
admit_one-requires-clause-rule c = rule_in c.args.graph.now c.loop-place.needed.items c.loop-place.place c.in-Some.rule c.loop-place.invariant.rules (sym c.in-Some.ensures)

pub loop-place-preserved : goal.loop-place-preserved
loop-place-preserved c =
    let i = c.loop-place.invariant in
    let g = c.args.graph.now in
    let s = queues c.args.needed.items in
    let k = c.in_ok-admit_one.ensures in
    record {
      meets = meets_trans c.args.self.now c.loop-place.self c.admit_one.new.self i.meets c.admit_one.ensures.meets;
      rules = rules_next g c.loop-place.self c.admit_one.new.self _ c.loop-place.needed.items c.admit_one.new.needed.items i.rules k.brings;
      room = room_still g c.loop-place.self c.admit_one.new.self i.room k.brings.admits.keeps;
      order = order_trans c.args.self.now c.loop-place.self c.admit_one.new.self i.order k.order;
      watch =
          ends_next c.args.self.now c.loop-place.self c.admit_one.new.self c.args.needed.items c.loop-place.needed.items c.admit_one.new.needed.items c.loop-place.place c.in-Some.rule (sym c.in-Some.ensures) i.watch k.watch;
      finds = finds_on g c.args.self.now c.loop-place.self c.admit_one.new.self [] i.finds k.brings.admits.keeps k.finds;
      admits =
          admits_next g c.args.self.now c.loop-place.self c.admit_one.new.self s c.loop-place.needed.items c.admit_one.new.needed.items c.loop-place.place c.in-Some.rule (sym c.in-Some.ensures) i.admits
          k.brings;
      others =
          adds_next g c.args.self.now c.loop-place.self c.admit_one.new.self c.args.needed.items c.loop-place.needed.items c.admit_one.new.needed.items c.loop-place.place c.in-Some.rule (sym c.in-Some.ensures) i.others
          k.others;
    }

pub returns-in_default-clause-admits : goal.returns-in_default-clause-admits
returns-in_default-clause-admits c =
    let i = c.loop-place.invariant in
    admits_end c.args.graph.now c.args.self.now c.loop-place.self (queues c.args.needed.items) c.loop-place.needed.items c.loop-place.place (sym c.in_default.ensures) i.admits

pub returns-in_default-clause-watch : goal.returns-in_default-clause-watch
returns-in_default-clause-watch c = ends_end c.args.self.now c.loop-place.self c.args.needed.items c.loop-place.needed.items c.loop-place.place (sym c.in_default.ensures) c.loop-place.invariant.watch

pub returns-in_default-clause-others : goal.returns-in_default-clause-others
returns-in_default-clause-others c = adds_end c.args.graph.now c.args.self.now c.loop-place.self c.args.needed.items c.loop-place.needed.items c.loop-place.invariant.others
