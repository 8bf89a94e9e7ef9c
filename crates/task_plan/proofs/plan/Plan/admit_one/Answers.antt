use Rattle.std.proofs.Common.{length}
use Rattle.task_plan.proofs.MetLemmas.{room_still, keeps_same, finds_one}
use Rattle.task_plan.proofs.MetNeeds.{met_one, needs_below}
use Rattle.task_plan.proofs.WatchAdmits.{admits_watch}
use Rattle.task_plan.proofs.AdmitLemmas.{brings_one}
use Rattle.task_plan.specs.Met.{needs_at}
use Rattle.task_plan.proofs.LeaveLemmas.{order_trans, order_looked}
use Rattle.task_plan.proofs.PlanLemmas.{meets_trans}
use Rattle.task_plan.proofs.WatchMeets.{meets_stays}
use Rattle.task_plan.proofs.OtherLemmas.{others_put}
use Rattle.task_plan.proofs.plan.Plan.admit_one.Goals as goal

pub meet_needs-requires : goal.meet_needs-requires
meet_needs-requires c =
    room_still c.args.graph.now c.args.self.now c.put_task.new.self c.requires.room (keeps_same c.args.self.now c.put_task.new.self c.put_task.ensures.origins c.put_task.ensures.states)

pub returns-clause-brings : goal.returns-clause-brings
returns-clause-brings c =
    let g = c.args.graph.now in
    let a = c.args.self.now in
    let b = c.put_task.new.self in
    let d = c.meet_needs.new.self in
    let p = c.put_task.ensures in
    let k = c.in_ok-meet_needs.ensures in
    let of = c.rule.result.now in
    let met = met_one g a b d c.args.rule.0 of c.in_ok-task.task p.rules p.room c.requires.room c.rule.ensures.at c.in_ok-task.ensures c.rule.ensures.valid k.finds in
    brings_one g a b d c.pass.new.self c.find_ready.new.self c.args.rule.0 of c.in_ok-task.task c.args.needed.now.items c.meet_needs.new.needed.items p.states p.rules p.origins p.room
    c.requires.room.states c.rule.ensures.at c.in_ok-task.ensures k.brings c.meet_needs.ensures.rules met c.pass.ensures.stays c.find_ready.ensures.stays

pub returns-clause-finds : goal.returns-clause-finds
returns-clause-finds c =
    finds_one c.args.graph.now c.args.self.now c.put_task.new.self c.meet_needs.new.self c.pass.new.self c.find_ready.new.self (needs_at c.put_task.new.self.rules c.args.rule.0)
    c.put_task.ensures.states c.put_task.ensures.origins c.in_ok-meet_needs.ensures.finds c.pass.ensures.stays c.find_ready.ensures.stays

pub returns-clause-watch : goal.returns-clause-watch
returns-clause-watch c =
    let g = c.args.graph.now in
    let k = c.in_ok-meet_needs.ensures in
    let p = c.put_task.ensures in
    admits_watch g c.args.self.now c.put_task.new.self c.meet_needs.new.self c.pass.new.self c.find_ready.new.self c.args.rule c.rule.result.now c.in_ok-task.task c.args.needed.now.items c.meet_needs.new.needed.items
    p.puts p.rules c.in_ok-task.ensures (needs_below (length g.nodes) c.rule.result.now c.rule.ensures.valid) k.watch c.meet_needs.ensures.leaves k.hears c.pass.ensures.passes c.find_ready.ensures.readies

pub returns-clause-order : goal.returns-clause-order
returns-clause-order c =
    let a = c.args.self.now in
    let b = c.put_task.new.self in
    let d = c.meet_needs.new.self in
    let e = c.pass.new.self in
    let f = c.find_ready.new.self in
    order_trans a d f (order_trans a b d c.put_task.ensures.order c.in_ok-meet_needs.ensures.order)
    (order_looked d e f c.args.rule.0 0 c.pass.ensures.stays c.find_ready.ensures.stays c.pass.ensures.passes c.find_ready.ensures.readies)

pub returns-clause-others : goal.returns-clause-others
returns-clause-others c =
    let p = c.put_task.ensures in
    others_put c.args.graph.now c.args.self.now c.put_task.new.self c.meet_needs.new.self c.pass.new.self c.find_ready.new.self c.args.rule.0 c.rule.result.now c.in_ok-task.task c.args.needed.now.items c.meet_needs.new.needed.items
    p.states p.origins p.rules p.room c.requires.room.states c.rule.ensures.at c.in_ok-task.ensures c.in_ok-meet_needs.ensures.others c.pass.ensures.stays c.find_ready.ensures.stays

pub returns-clause-meets : goal.returns-clause-meets
returns-clause-meets c =
    let a = c.args.self.now in
    let b = c.put_task.new.self in
    let d = c.meet_needs.new.self in
    let e = c.pass.new.self in
    meets_stays a e c.find_ready.new.self (meets_stays a d e (meets_trans a b d c.put_task.ensures.meets c.meet_needs.ensures.meets) c.pass.ensures.stays) c.find_ready.ensures.stays
