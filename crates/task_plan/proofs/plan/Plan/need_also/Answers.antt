use Rattle.std.proofs.Common.{◌∙◌, [], inl, inr, ap, sym}
use Rattle.std.proofs.lemmas.Result.{on_ok_weaker}
use Rattle.task_plan.specs.Met.{is_met}
use Rattle.task_plan.proofs.WatchMeets.{keeps_unordered, keeps_watch_then, keeps_waiting, hears_waiting}
use Rattle.task_plan.proofs.LeaveLemmas.{order_same, order_trans, order_unordered, order_waiting, ready_one, ready_still}
use Rattle.task_plan.proofs.plan.Plan.need_also.Goals as goal

pub returns-clause-watch : goal.returns-clause-watch
returns-clause-watch c =
    let a = c.args.self.now in
    let b = c.note_need.new.self in
    let d = c.wait_for.new.self in
    let n = c.note_need.ensures in
    on_ok_weaker c.wait_for.result (λ w. keeps_watch_then a b d [] [] (keeps_unordered a b n.rest n.fewer) (keeps_waiting b d c.args.node c.args.rule c.wait_for.ensures.rest w)) c.wait_for.ensures.waits

pub returns-clause-hears : goal.returns-clause-hears
returns-clause-hears c =
    let a = c.args.self.now in
    let b = c.note_need.new.self in
    let d = c.wait_for.new.self in
    let n = c.note_need.ensures in
    on_ok_weaker c.wait_for.result
    (λ w room met. hears_waiting b d c.args.node c.args.rule c.wait_for.ensures.rest w ((keeps_unordered a b n.rest n.fewer).room room) (ap (λ x. is_met x c.args.node) n.stays.origins ∙ met)) c.wait_for.ensures.waits

pub returns-then-is_ready-clause-order : goal.returns-then-is_ready-clause-order
returns-then-is_ready-clause-order c = order_same c.args.self.now

pub returns-then-is_ready-clause-ready : goal.returns-then-is_ready-clause-ready
returns-then-is_ready-clause-ready c = ready_one c.args.self.now c.args.rule.0 c.args.node (λ ok. inl (sym c.is_ready.ensures ∙ c.if-is_ready.true))

pub returns-clause-order : goal.returns-clause-order
returns-clause-order c =
    let a = c.args.self.now in
    let b = c.note_need.new.self in
    let d = c.wait_for.new.self in
    let n = c.note_need.ensures in
    on_ok_weaker c.wait_for.result (λ w. order_trans a b d (order_unordered a b n.rest n.fewer) (order_waiting b d c.wait_for.ensures.rest)) c.wait_for.ensures.waits

pub returns-clause-ready : goal.returns-clause-ready
returns-clause-ready c =
    let a = c.args.self.now in
    let b = c.note_need.new.self in
    let d = c.wait_for.new.self in
    let n = c.note_need.ensures in
    let one = order_unordered a b n.rest n.fewer in
    let two = order_waiting b d c.wait_for.ensures.rest in
    on_ok_weaker c.wait_for.result
    (λ w. ready_one d c.args.rule.0 c.args.node (λ ok. ready_still a d c.args.rule.0 c.args.node (order_trans a b d one two) ok (inr (n.before (two.queue.fits ok))))) c.wait_for.ensures.waits
