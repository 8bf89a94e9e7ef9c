use Rattle.std.proofs.Common.{arith, ◌≤◌, length, sym, subst}
use Rattle.std.specs.Prelude.{map}
use Rattle.scons_base.specs.declared.ids.RuleId.{RuleId}
use Rattle.task_plan.specs.Settled.{kept_of}
use Rattle.task_plan.specs.Noted.{lists_of}
use Rattle.task_plan.specs.Held.{WaitsOn}
use Rattle.task_plan.specs.Holding.{FindsIn, IsFollowed}
use Rattle.task_plan.proofs.HeldLemmas.{pair_at, no_pair_at, walk_first, walk_next, walk_end}
use Rattle.task_plan.proofs.held.Held.add_held.Goals as goal

pub loop-place-init : goal.loop-place-init
loop-place-init c =
    let states = c.args.states.now in
    let rules = map kept_of c.args.tasks.now in
    let ws = lists_of c.args.files.now.waiters.items in
    let k = c.in_ok-add_waiting.ensures {u = tt} in
    let start : c.len-start.result ≤ length c.args.self.now.pairs.items = omega (arith, c.len-start.ensures) in
    walk_first states rules ws c.args.fault c.args.self.now c.add_waiting.new.self c.len-start.result start k.finds k.all

pub loop-place-preserved : goal.loop-place-preserved
loop-place-preserved c =
    let states = c.args.states.now in
    let rules = map kept_of c.args.tasks.now in
    let ws = lists_of c.args.files.now.waiters.items in
    let now = c.loop-place.self in
    let new = c.add_waiting-in-loop-place.new.self in
    let k = c.in_ok-add_waiting-2.ensures {u = tt} in
    let p = pair_at now.pairs.items c.loop-place.place c.in-Some.rule (c.in-Some.ensures {u = tt}) in
    let start : length c.args.self.now.pairs.items ≤ c.loop-place.place = omega (arith, c.len-start.ensures) in
    walk_next states rules ws c.args.fault c.args.self.now now new c.loop-place.place p.pair c.loop-place.invariant start p.at
    (subst (λ (r : RuleId). FindsIn (λ x. WaitsOn states rules ws x r.0) c.args.fault now new) (sym p.is) k.finds) (subst (λ (r : RuleId). IsFollowed states rules ws new.seen.items r.0) (sym p.is) k.all)

pub returns-in_default : goal.returns-in_default
returns-in_default c =
    walk_end c.args.states.now (map kept_of c.args.tasks.now) (lists_of c.args.files.now.waiters.items) c.args.fault c.args.self.now c.loop-place.self c.loop-place.place c.loop-place.invariant
    (no_pair_at c.loop-place.self.pairs.items c.loop-place.place (c.in_default.ensures {u = tt}))
