use Rattle.std.proofs.Common.{◌∙◌, sym}
use Rattle.task_plan.specs.Met.{is_met}
use Rattle.task_plan.proofs.ListLemmas.{and_left}
use Rattle.task_plan.proofs.WatchMeets.{brings_watch_keeps, keeps_waiting, hears_waiting, hears_done, hears_one}
use Rattle.task_plan.proofs.LeaveLemmas.{order_trans, order_waiting}
use Rattle.task_plan.proofs.OtherLemmas.{others_stay}
use Rattle.task_plan.proofs.plan.Plan.meet_need.Goals as goal

pub returns-then-is_ready-clause-hears : goal.returns-then-is_ready-clause-hears
returns-then-is_ready-clause-hears c =
    let b = c.meet.new.self in
    hears_one c.args.graph.now c.args.self.now b c.args.rule.0 c.args.node
    (λ below room. hears_done b c.args.rule.0 c.args.node (and_left (is_met b.origins c.args.node) _ (c.in_ok-meet.ensures.finds.met below)) (sym c.is_ready.ensures ∙ c.if-is_ready.true))

pub returns-clause-watch : goal.returns-clause-watch
returns-clause-watch c =
    let b = c.meet.new.self in
    let d = c.wait_for.new.self in
    brings_watch_keeps c.args.self.now b d c.args.needed.now.items c.meet.new.needed.items c.in_ok-meet.ensures.watch (keeps_waiting b d c.args.node c.args.rule c.wait_for.ensures.rest c.in_ok-wait_for.ensures.waits)

pub returns-clause-hears : goal.returns-clause-hears
returns-clause-hears c =
    let b = c.meet.new.self in
    let d = c.wait_for.new.self in
    let k = c.in_ok-meet.ensures in
    hears_one c.args.graph.now c.args.self.now d c.args.rule.0 c.args.node
    (λ below room. hears_waiting b d c.args.node c.args.rule c.wait_for.ensures.rest c.in_ok-wait_for.ensures.waits (k.watch.keeps.room room) (and_left (is_met b.origins c.args.node) _ (k.finds.met below)))

pub returns-clause-order : goal.returns-clause-order
returns-clause-order c =
    order_trans c.args.self.now c.meet.new.self c.wait_for.new.self c.in_ok-meet.ensures.order (order_waiting c.meet.new.self c.wait_for.new.self c.wait_for.ensures.rest)

pub returns-clause-others : goal.returns-clause-others
returns-clause-others c =
    others_stay c.args.graph.now c.args.self.now c.meet.new.self c.wait_for.new.self _ c.args.needed.now.items c.meet.new.needed.items c.in_ok-meet.ensures.others c.wait_for.ensures.stays
