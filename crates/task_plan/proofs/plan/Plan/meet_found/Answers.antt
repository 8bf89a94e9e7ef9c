use Rattle.std.proofs.Common.{arith, ◌≡◌, true, false, ap, length, refl}
use Rattle.std.proofs.lemmas.Option.{slice_get-get_or}
use Rattle.task_plan.proofs.PlanLemmas.{meets_same, meets_trans}
use Rattle.task_plan.proofs.MetLemmas.{room_still, finds_nothing, finds_more, finds_all}
use Rattle.task_plan.proofs.AdmitLemmas.{widens_same, brings_none, brings_then}
use Rattle.task_plan.proofs.WatchMeets.{brings_watch_same, brings_watch_then, leaves_same, leaves_then, hears_none, hears_more, hears_all}
use Rattle.task_plan.specs.Admits.{none}
use Rattle.task_plan.proofs.LeaveLemmas.{order_same, order_trans, ready_more, ready_all}
use Rattle.task_plan.proofs.MetNeeds.{stands_at}
use Rattle.task_plan.proofs.OtherLemmas.{others_same, others_more}
use Rattle.task_plan.proofs.plan.Plan.meet_found.Goals as goal

pub loop-node-init : goal.loop-node-init
loop-node-init c =
    let g = c.args.graph.now in
    let a = c.args.self.now in
    record {
      meets = meets_same a;
      finds = finds_nothing g a c.args.growth.now.new.items;
      room = c.requires;
      brings = brings_none g a a c.args.needed.now.items c.args.needed.now.items (widens_same a a refl) refl;
      watch = brings_watch_same a c.args.needed.now.items;
      leaves = leaves_same a;
      order = order_same a;
      ready = λ ok n h. absurd (let bad : false ≡ true = h in cc);
      hears = hears_none g a a c.args.rule.0;
      others = others_same g a a c.args.growth.now.new.items c.args.needed.now.items refl refl;
    }

pub loop-node-preserved : goal.loop-node-preserved
loop-node-preserved c =
    let g = c.args.graph.now in
    let i = c.loop-node.invariant in
    let a = c.args.self.now in
    let b = c.loop-node.self in
    let m = c.meet_one_found.new.self in
    let k = c.in_ok-meet_one_found.ensures in
    let files = c.deref-node-items.ensures.value in
    let n = ap length files in
    record {
      meets = meets_trans a b m i.meets c.meet_one_found.ensures.meets;
      finds = finds_more g a b m c.args.growth.now.new.items c.loop-node.node-index _ (omega arith) i.finds k.brings.admits.keeps (rw files at k.finds);
      room = room_still g b m i.room k.brings.admits.keeps;
      brings = brings_then g a b m none c.args.needed.now.items c.loop-node.needed.items c.meet_one_found.new.needed.items i.brings k.brings;
      watch = brings_watch_then a b m c.args.needed.now.items c.loop-node.needed.items c.meet_one_found.new.needed.items i.watch k.watch;
      leaves = leaves_then a b m i.leaves c.meet_one_found.ensures.leaves;
      order = order_trans a b m i.order k.order;
      ready = ready_more b m c.args.rule.0 c.args.growth.now.new.items c.loop-node.node-index _ (omega arith) k.order i.ready (rw files at k.ready);
      hears = hears_more g a b m c.args.rule.0 c.args.growth.now.new.items c.loop-node.node-index _ c.args.needed.now.items c.loop-node.needed.items c.meet_one_found.new.needed.items (omega arith) i.hears i.watch k.watch
          (rw files at k.hears);
      others =
          others_more g a b m c.args.growth.now.new.items _ c.args.needed.now.items c.loop-node.needed.items c.meet_one_found.new.needed.items
          (stands_at c.args.growth.now.new.items c.loop-node.node-index _ (slice_get-get_or c.args.growth.now.new.items c.loop-node.node-index _ (omega arith))) i.others (rw files at k.others);
    }

pub returns-clause-finds : goal.returns-clause-finds
returns-clause-finds c =
    let n = ap length c.deref-node-items.ensures.value in
    finds_all c.args.graph.now c.args.self.now c.loop-node.self c.args.growth.now.new.items c.loop-node.node-index (omega arith) c.loop-node.invariant.finds

pub returns-clause-hears : goal.returns-clause-hears
returns-clause-hears c =
    let n = ap length c.deref-node-items.ensures.value in
    hears_all c.args.graph.now c.args.self.now c.loop-node.self c.args.rule.0 c.args.growth.now.new.items c.loop-node.node-index (omega arith) c.loop-node.invariant.hears

pub returns-clause-ready : goal.returns-clause-ready
returns-clause-ready c =
    let n = ap length c.deref-node-items.ensures.value in
    ready_all c.loop-node.self c.args.rule.0 c.args.growth.now.new.items c.loop-node.node-index (omega arith) c.loop-node.invariant.ready
