use Rattle.std.proofs.Common.{◌≡◌, ◌<◌, ◌≤◌, ◌∙◌, length, get_or, arith, ap, sym}
use Rattle.task_plan.specs.Queues.{unnumbered}
use Rattle.task_plan.proofs.QueueLemmas.{others_put, this_past}
use Rattle.task_plan.proofs.queue.Queue.put.Goals as goal

pub returns-then-number-len-clause-others : goal.returns-then-number-len-clause-others
returns-then-number-len-clause-others c =
    let i = c.self.inside in
    let e : get_or i.numbers.items c.args.rule.0 unnumbered ≡ c.number-number.result = ap (λ q. get_or q.numbers c.args.rule.0 unnumbered) c.self.view_is ∙ sym c.number-number.ensures in
    let lt : c.number-number.result < length i.rules.items = omega arith in
    λ x ne. rw (c.put.ensures, sym c.self.view_is)
    (others_put i.rules.items i.numbers.items i.opens c.args.rule.0 c.number-number.result x c.args.is_open c.self.invariant e lt ne)

pub returns-else-number-len-clause-this : goal.returns-else-number-len-clause-this
returns-else-number-len-clause-this c =
    let i = c.self.inside in
    let e : get_or i.numbers.items c.args.rule.0 unnumbered ≡ c.number-number.result = ap (λ q. get_or q.numbers c.args.rule.0 unnumbered) c.self.view_is ∙ sym c.number-number.ensures in
    let le : length i.rules.items ≤ c.number-number.result = omega arith in
    rw (sym c.self.view_is) (this_past i.rules.items i.numbers.items i.opens c.args.rule.0 c.number-number.result c.args.is_open c.self.invariant e le)
