use Rattle.task_plan.specs.Met.{is_met}
use Rattle.task_plan.proofs.ListLemmas.{and_left}
use Rattle.task_plan.proofs.WatchMeets.{brings_watch_keeps, leaves_then, hears_one}
use Rattle.task_plan.proofs.LeaveLemmas.{order_trans}
use Rattle.task_plan.proofs.AdmitLemmas.{widens_stays, brings_widens}
use Rattle.task_plan.specs.Admits.{none}
use Rattle.task_plan.proofs.OtherLemmas.{others_stay}
use Rattle.task_plan.proofs.plan.Plan.meet_one_found.Goals as goal

pub returns-clause-leaves : goal.returns-clause-leaves
returns-clause-leaves c = leaves_then c.args.self.now c.meet.new.self c.need_also.new.self c.meet.ensures.leaves c.need_also.ensures.leaves

pub returns-clause-watch : goal.returns-clause-watch
returns-clause-watch c =
    brings_watch_keeps c.args.self.now c.meet.new.self c.need_also.new.self c.args.needed.now.items c.meet.new.needed.items c.in_ok-meet.ensures.watch c.in_ok-need_also.ensures.watch

pub returns-clause-hears : goal.returns-clause-hears
returns-clause-hears c =
    let b = c.meet.new.self in
    let k = c.in_ok-meet.ensures in
    hears_one c.args.graph.now c.args.self.now c.need_also.new.self c.args.rule.0 c.args.node
    (λ below room. c.in_ok-need_also.ensures.hears (k.watch.keeps.room room) (and_left (is_met b.origins c.args.node) _ (k.finds.met below)))

pub returns-clause-order : goal.returns-clause-order
returns-clause-order c = order_trans c.args.self.now c.meet.new.self c.need_also.new.self c.in_ok-meet.ensures.order c.in_ok-need_also.ensures.order

pub returns-clause-others : goal.returns-clause-others
returns-clause-others c =
    others_stay c.args.graph.now c.args.self.now c.meet.new.self c.need_also.new.self _ c.args.needed.now.items c.meet.new.needed.items c.in_ok-meet.ensures.others c.need_also.ensures.stays

pub returns-clause-brings : goal.returns-clause-brings
returns-clause-brings c =
    let b = c.meet.new.self in
    let d = c.need_also.new.self in
    brings_widens c.args.graph.now c.args.self.now b d none c.args.needed.now.items c.meet.new.needed.items c.in_ok-meet.ensures.brings (widens_stays b d c.need_also.ensures.stays)
