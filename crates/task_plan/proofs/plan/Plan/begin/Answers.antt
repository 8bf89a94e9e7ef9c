use Rattle.task_plan.proofs.AdmitLemmas.{begins}
use Rattle.task_plan.proofs.MetNeeds.{finds_begun}
use Rattle.task_plan.proofs.WatchSteps.{begins_complete}
use Rattle.task_plan.proofs.BeginLemmas.{makers_begun, begins_order}
use Rattle.task_plan.proofs.LeaveLemmas.{order_widens}
use Rattle.task_plan.proofs.RootLemmas.{reached_same}
use Rattle.task_plan.proofs.RootSteps.{begins_reached, sought_same}
use Rattle.task_plan.proofs.plan.Plan.begin.Goals as goal

pub returns-clause-admits : goal.returns-clause-admits
returns-clause-admits c =
    begins c.args.graph.now c.args.self.now c.make_room.new.self c.meet_roots.new.self c.put_in_order.new.self c.make_room.ensures.widens c.in_ok-meet_roots.ensures.admits c.put_in_order.ensures.stays

pub returns-clause-finds : goal.returns-clause-finds
returns-clause-finds c =
    finds_begun c.args.graph.now c.args.self.now c.make_room.new.self c.meet_roots.new.self c.put_in_order.new.self c.args.requested.now c.make_room.ensures.widens c.in_ok-meet_roots.ensures.finds
    c.put_in_order.ensures.stays

pub returns-clause-complete : goal.returns-clause-complete
returns-clause-complete c =
    let a = c.args.self.now in
    let b = c.make_room.new.self in
    let d = c.meet_roots.new.self in
    let w = c.make_room.ensures in
    let m = c.in_ok-meet_roots.ensures in
    λ states origins roots. begins_complete a b d c.put_in_order.new.self w.watch c.in_ok-make_room.ensures.marks m.watch
    (c.in_ok-put_in_order.ensures.orders (begins_reached c.args.graph.now a b d c.args.requested.now w.widens w.roots m.admits m.finds m.order m.others m.roots states origins roots).reached) states origins

pub returns-clause-only : goal.returns-clause-only
returns-clause-only c =
    let a = c.args.self.now in
    let b = c.make_room.new.self in
    let d = c.meet_roots.new.self in
    let w = c.make_room.ensures in
    let m = c.in_ok-meet_roots.ensures in
    let s = c.put_in_order.ensures.stays in
    λ states origins roots. reached_same d c.put_in_order.new.self s.states s.rules s.origins c.in_ok-put_in_order.ensures.puts.roots
    (begins_reached c.args.graph.now a b d c.args.requested.now w.widens w.roots m.admits m.finds m.order m.others m.roots states origins roots).reached

pub returns-clause-sought : goal.returns-clause-sought
returns-clause-sought c =
    let a = c.args.self.now in
    let b = c.make_room.new.self in
    let d = c.meet_roots.new.self in
    let w = c.make_room.ensures in
    let m = c.in_ok-meet_roots.ensures in
    let s = c.put_in_order.ensures.stays in
    λ states origins roots. sought_same d c.put_in_order.new.self c.args.requested.now s.states s.rules s.origins
    (begins_reached c.args.graph.now a b d c.args.requested.now w.widens w.roots m.admits m.finds m.order m.others m.roots states origins roots).sought

pub returns-clause-roots : goal.returns-clause-roots
returns-clause-roots c =
    let m = c.meet_roots.new.self in
    makers_begun c.args.graph.now c.args.self.now.notes.roots c.make_room.new.self.notes.roots m.notes.roots c.put_in_order.new.self.notes.roots c.args.requested.now
    c.make_room.ensures.roots c.in_ok-meet_roots.ensures.roots c.in_ok-put_in_order.ensures.puts.roots

pub returns-clause-order : goal.returns-clause-order
returns-clause-order c =
    let a = c.args.self.now in
    let b = c.make_room.new.self in
    begins_order c.args.graph.now a b c.meet_roots.new.self c.put_in_order.new.self (order_widens a b c.make_room.ensures.watch c.make_room.ensures.roots) c.in_ok-meet_roots.ensures.order c.put_in_order.ensures.stays c.in_ok-put_in_order.ensures.puts
