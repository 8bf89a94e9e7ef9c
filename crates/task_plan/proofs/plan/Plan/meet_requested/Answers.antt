use Rattle.std.proofs.Common.{arith, ◌+◌, take, refl}
use Rattle.std.proofs.lemmas.Option.{slice_get-get_or}
use Rattle.task_plan.proofs.PlanLemmas.{meets_same, meets_trans}
use Rattle.task_plan.proofs.MetLemmas.{room_still, keeps_same, finds_on, finds_stays, finds_nothing, finds_more, finds_all}
use Rattle.task_plan.proofs.AdmitLemmas.{widens_same, widens_stays, brings_widens, brings_none, brings_then}
use Rattle.task_plan.proofs.WatchMeets.{meets_stays, brings_watch_same, brings_watch_then, brings_watch_keeps, keeps_roots}
use Rattle.task_plan.specs.Admits.{none}
use Rattle.task_plan.proofs.BeginLemmas.{makers_none, makers_more, makers_all, roots_same, roots_trans, roots_added}
use Rattle.task_plan.proofs.MetNeeds.{stands_at}
use Rattle.task_plan.proofs.OtherLemmas.{others_same, others_more, others_stay}
use Rattle.task_plan.proofs.plan.Plan.meet_requested.Goals as goal

pub loop-node-init : goal.loop-node-init
loop-node-init c =
    let g = c.args.graph.now in
    let a = c.args.self.now in
    record {
      meets = meets_same a;
      finds = finds_nothing g a c.args.requested.now;
      room = c.requires;
      roots = makers_none g a.notes.roots c.args.requested.now;
      order = roots_same g a;
      brings = brings_none g a a c.args.needed.now.items c.args.needed.now.items (widens_same a a refl) refl;
      watch = brings_watch_same a c.args.needed.now.items;
      others = others_same g a a c.args.requested.now c.args.needed.now.items refl refl;
    }

pub loop-node-preserved : goal.loop-node-preserved
loop-node-preserved c =
    let g = c.args.graph.now in
    let i = c.loop-node.invariant in
    let a = c.args.self.now in
    let b = c.loop-node.self in
    let m = c.meet.new.self in
    let k = c.in_ok-meet.ensures in
    let d = c.add_root.new.self in
    let s = c.add_root.ensures.stays in
    let keeps = keeps_same m d s.origins s.states in
    let taken = finds_more g a b m c.args.requested.now c.loop-node.node-index _ (omega arith) i.finds k.brings.admits.keeps k.finds in
    record {
      meets = meets_stays a m d (meets_trans a b m i.meets c.meet.ensures.meets) s;
      finds = finds_on g a m d (take (c.loop-node.node-index + 1) c.args.requested.now) taken keeps (finds_stays g m d s);
      room = room_still g m d (room_still g b m i.room k.brings.admits.keeps) keeps;
      brings = brings_widens g a m d none c.args.needed.now.items c.meet.new.needed.items (brings_then g a b m none c.args.needed.now.items c.loop-node.needed.items c.meet.new.needed.items i.brings k.brings) (widens_stays m d s);
      roots = makers_more g a.notes.roots b.notes.roots m.notes.roots d.notes.roots c.args.requested.now c.loop-node.node-index _ (omega arith) i.roots k.order.queue.roots c.in_ok-add_root.ensures.roots;
      order = roots_trans g a b d i.order (roots_added g b m d _ k.order k.finds c.add_root.ensures.below c.add_root.ensures.rest c.in_ok-add_root.ensures.roots);
      watch = brings_watch_keeps a m d c.args.needed.now.items c.meet.new.needed.items (brings_watch_then a b m c.args.needed.now.items c.loop-node.needed.items c.meet.new.needed.items i.watch k.watch)
          (keeps_roots m d c.add_root.ensures.rest);
      others =
          others_stay g a m d c.args.requested.now c.args.needed.now.items c.meet.new.needed.items
          (others_more g a b m c.args.requested.now _ c.args.needed.now.items c.loop-node.needed.items c.meet.new.needed.items
          (stands_at c.args.requested.now c.loop-node.node-index _ (slice_get-get_or c.args.requested.now c.loop-node.node-index _ (omega arith))) i.others k.others)
          s;
    }

pub returns-clause-finds : goal.returns-clause-finds
returns-clause-finds c = finds_all c.args.graph.now c.args.self.now c.loop-node.self c.args.requested.now c.loop-node.node-index (omega arith) c.loop-node.invariant.finds

pub returns-clause-roots : goal.returns-clause-roots
returns-clause-roots c =
    makers_all c.args.graph.now c.args.self.now.notes.roots c.loop-node.self.notes.roots c.args.requested.now c.loop-node.node-index (omega arith) c.loop-node.invariant.roots
