use Rattle.task_plan.specs.Walks.{is_seen}
use Rattle.task_plan.proofs.HeldLemmas.{not_false, not_true, finds_none, finds_one, seen_added}
use Rattle.task_plan.proofs.held.Held.add.Goals as goal

pub returns-then-not-mark-clause-finds : goal.returns-then-not-mark-clause-finds
returns-then-not-mark-clause-finds c =
    let old = c.args.self.now in
    let seen = not_false (is_seen old.seen.items c.args.rule.0) (c.if-not-mark.ensures {u = tt}).first in
    finds_none c.args.fault c.args.rule old.seen.items c.mark.new.seen.items old.pairs.items c.mark.ensures.seen seen

pub returns-clause-finds : goal.returns-clause-finds
returns-clause-finds c =
    let old = c.args.self.now in
    let unseen = not_true (is_seen old.seen.items c.args.rule.0) (c.if-not-mark.ensures {u = tt}).first in
    finds_one c.args.fault c.args.rule old.seen.items c.mark.new.seen.items old.pairs.items c.push.new.self.items c.mark.ensures.seen (c.in_ok-push.ensures {u = tt}).items unseen

pub returns-clause-seen : goal.returns-clause-seen
returns-clause-seen c = seen_added c.args.rule c.args.self.now.seen.items c.mark.new.seen.items c.mark.ensures.seen
