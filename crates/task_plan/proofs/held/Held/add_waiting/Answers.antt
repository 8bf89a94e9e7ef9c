use Rattle.std.proofs.Common.{arith, ◌≡◌, ℕ, true}
use Rattle.std.specs.Prelude.{map}
use Rattle.scons_base.specs.declared.ids.NodeId.{NodeId}
use Rattle.task_plan.specs.Settled.{kept_of}
use Rattle.task_plan.specs.Noted.{lists_of, waiters_of}
use Rattle.task_plan.specs.Walks.{is_seen}
use Rattle.task_plan.specs.Holding.{Finds, IsToldOf}
use Rattle.task_plan.proofs.HeldLemmas.{seen_still, each_next, waiting_next, all_waiting}
use Rattle.task_plan.proofs.held.Held.add_waiting.Goals as goal

pub loop-target-init : goal.loop-target-init
loop-target-init c = record { finds = Finds.nothing; all = λ n target lt e r h. absurd (omega arith) }

pub loop-target-preserved : goal.loop-target-preserved
loop-target-preserved c =
    let i = c.loop-target.invariant in
    let states = c.args.states.now in
    let rules = map kept_of c.args.tasks.now in
    let ws = lists_of c.args.files.now.waiters.items in
    let targets = c.targets_of-targets.result.now in
    let now = c.loop-target.self in
    let new = c.add_told.new.self in
    let k = rw c.waiters.ensures at (c.in_ok-add_told.ensures {u = tt}) in
    record {
      finds =
          waiting_next states rules ws c.args.rule.0 targets c.loop-target.target-index _ c.args.fault c.args.self.now.seen.items now.seen.items new.seen.items c.args.self.now.pairs.items now.pairs.items new.pairs.items
          c.targets_of-targets.ensures (omega arith) i.finds k.finds;
      all =
          each_next (λ (t : NodeId). (r : ℕ) → IsToldOf states rules (waiters_of ws t.0) t r → is_seen now.seen.items r ≡ true) (λ (t : NodeId). (r : ℕ) → IsToldOf states rules (waiters_of ws t.0) t r → is_seen new.seen.items r ≡ true) targets
          c.loop-target.target-index _ i.all (λ t f r h. seen_still _ c.args.fault now.seen.items now.pairs.items new.seen.items new.pairs.items k.finds r (f r h)) k.all;
    }

pub returns-clause-all : goal.returns-clause-all
returns-clause-all c =
    all_waiting c.args.states.now (map kept_of c.args.tasks.now) (lists_of c.args.files.now.waiters.items) c.args.rule.0 c.targets_of-targets.result.now c.loop-target.target-index c.loop-target.self.seen.items
    c.targets_of-targets.ensures (omega arith) c.loop-target.invariant.all
