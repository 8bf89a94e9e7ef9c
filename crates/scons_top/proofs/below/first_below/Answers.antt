use Rattle.std.proofs.Common.{rules, ◌≡◌, ◌∙◌, ap, sym, subst, ℕ, List}
use Rattle.std.proofs.lemmas.List.Sorted.{IsPartitionPoint-from_clause}
use Rattle.scons_base.specs.declared.ids.NodeId.{NodeId}
use Rattle.scons_top.specs.Below.{begins_below, goes_before, StartsAt}
use Rattle.scons_top.proofs.Orders.{parted}
use Rattle.scons_top.proofs.below.first_below.Goals as goal

pub returns-clause-starts : goal.returns-clause-starts
returns-clause-starts c = λ order.
    let targets = c.args.targets.now in
    let front = c.as_str-front.result.now in
    let point = IsPartitionPoint-from_clause (λ (t : List ℕ × NodeId). goes_before t.0 front) _ _ c.partition_point.ensures.partitioned (parted targets front order) (λ a r q k. search rules) in
    let starts : StartsAt targets front c.partition_point.result = record { within = c.partition_point.ensures.bound; before = point.0; behind = point.1 } in
    subst (λ (f : List ℕ). StartsAt targets f c.partition_point.result) (c.as_str-front.ensures.value ∙ c.in_ok-front.ensures) starts
