use Rattle.std.proofs.Common.{arith, ◌≡◌, true}
use Rattle.std.specs.Prelude.{map}
use Rattle.scons_base.specs.declared.ids.RuleId.{RuleId}
use Rattle.task_plan.specs.Settled.{kept_of}
use Rattle.task_plan.specs.Walks.{is_seen}
use Rattle.task_plan.specs.Held.{waits_for}
use Rattle.task_plan.specs.Holding.{Finds}
use Rattle.task_plan.proofs.HeldLemmas.{seen_still, each_next, added_next, all_added}
use Rattle.task_plan.proofs.held.Held.add_told.Goals as goal

pub loop-rule-init : goal.loop-rule-init
loop-rule-init c = record { finds = Finds.nothing; all = λ n rule lt e h. absurd (omega arith) }

pub loop-rule-preserved : goal.loop-rule-preserved
loop-rule-preserved c =
    let i = c.loop-rule.invariant in
    let states = c.args.states.now in
    let rules = map kept_of c.args.tasks.now in
    let file = c.args.file in
    let now = c.loop-rule.self in
    let new = c.add_waiter.new.self in
    let k = c.in_ok-add_waiter.ensures {u = tt} in
    record {
      finds =
          added_next states rules c.args.rules.now file c.loop-rule.rule-index _ c.args.fault c.args.self.now.seen.items now.seen.items new.seen.items c.args.self.now.pairs.items now.pairs.items new.pairs.items (omega arith)
          i.finds k.finds;
      all = each_next (λ (r : RuleId). waits_for states rules r.0 file ≡ true → is_seen now.seen.items r.0 ≡ true) (λ (r : RuleId). waits_for states rules r.0 file ≡ true → is_seen new.seen.items r.0 ≡ true) c.args.rules.now
          c.loop-rule.rule-index _ i.all (λ r f h. seen_still _ c.args.fault now.seen.items now.pairs.items new.seen.items new.pairs.items k.finds r.0 (f h)) k.seen;
    }

pub returns-clause-all : goal.returns-clause-all
returns-clause-all c = all_added c.args.states.now (map kept_of c.args.tasks.now) c.args.rules.now c.args.file c.loop-rule.rule-index c.loop-rule.self.seen.items (omega arith) c.loop-rule.invariant.all
