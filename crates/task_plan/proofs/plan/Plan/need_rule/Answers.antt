use Rattle.std.proofs.Common.{◌∷◌, []}
use Rattle.task_plan.proofs.WatchMeets.{keeps_begun}
use Rattle.task_plan.proofs.LeaveLemmas.{order_begun}
use Rattle.task_plan.proofs.OtherLemmas.{others_begun}
use Rattle.task_plan.proofs.plan.Plan.need_rule.Goals as goal

pub returns-in_ok-push-clause-watch : goal.returns-in_ok-push-clause-watch
returns-in_ok-push-clause-watch c =
    let k = c.begins_need.ensures in
    let yes = c.if-begins_need.true in
    record {
      more = c.args.rule ∷ [];
      is = (c.in_ok-push.ensures {u = tt}).items;
      keeps = keeps_begun c.args.self.now c.begins_need.new.self c.args.rule (k.begun yes).was (k.begins yes);
    }

pub returns-in_ok-push-clause-order : goal.returns-in_ok-push-clause-order
returns-in_ok-push-clause-order c = order_begun c.args.self.now c.begins_need.new.self c.args.rule.0 (c.begins_need.ensures.begins c.if-begins_need.true)

pub returns-in_ok-push-clause-others : goal.returns-in_ok-push-clause-others
returns-in_ok-push-clause-others c =
    others_begun c.args.graph.now c.args.self.now c.begins_need.new.self c.args.rule c.args.needed.now.items c.push.new.self.items (c.begins_need.ensures.begun c.if-begins_need.true) (c.in_ok-push.ensures {u = tt}).items
