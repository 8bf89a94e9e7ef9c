use Rattle.model_trials.proofs.Naming.{answers_order, put_first}
use Rattle.model_trials.proofs.order.build_order.Goals as goal

pub returns : goal.returns
returns c =
    answers_order c.args.rules.now c.requires c.args.limit c.args.requested.now c.as_slice.result.now c.as_slice-2.result.now c.in_order.result
    (put_first c.new-all.ensures.items c.in_ok-needs_of_all.ensures c.as_slice.ensures.value)
    (put_first c.new-roots.ensures.items c.in_ok-add_rules_at.ensures c.as_slice-2.ensures.value)
    c.in_order.ensures
