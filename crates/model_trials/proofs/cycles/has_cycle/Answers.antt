use Rattle.model_trials.proofs.Naming.{put_first}
use Rattle.model_trials.proofs.Waiting.{cyclic, acyclic}
use Rattle.model_trials.proofs.cycles.has_cycle.Goals as goal

pub returns-clause-some : goal.returns-clause-some
returns-clause-some c = λ is.
    let led = rw c.in-Some.is at c.in_ok-needed.ensures in
    cyclic c.args.rules.now c.requires c.args.limit c.args.requested.now
    (put_first c.new-all.ensures.items c.in_ok-needs_of_all.ensures c.as_slice-lists.ensures.value)
    (put_first c.new-roots.ensures.items c.in_ok-add_rules_at.ensures c.as_slice.ensures.value)
    led c.as_slice-2.ensures.value (c.has_loop.ensures.some is)

pub returns-clause-none : goal.returns-clause-none
returns-clause-none c = λ is.
    let led = rw c.in-Some.is at c.in_ok-needed.ensures in
    acyclic c.args.rules.now c.requires c.args.limit c.args.requested.now
    (put_first c.new-all.ensures.items c.in_ok-needs_of_all.ensures c.as_slice-lists.ensures.value)
    (put_first c.new-roots.ensures.items c.in_ok-add_rules_at.ensures c.as_slice.ensures.value)
    led c.as_slice-2.ensures.value (c.has_loop.ensures.none is)
