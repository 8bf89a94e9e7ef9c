use Rattle.std.proofs.Common.{◌≡◌, ◌<◌, ℕ, true, Some}
use Rattle.std.specs.Prelude.{map, slice_get}
use Rattle.scons_base.specs.declared.ids.NodeId.{NodeId}
use Rattle.task_plan.specs.Settled.{kept_of}
use Rattle.task_plan.specs.Noted.{lists_of, waiters_of}
use Rattle.task_plan.specs.Walks.{is_seen}
use Rattle.task_plan.specs.Held.{WaitsOn}
use Rattle.task_plan.specs.Holding.{FindsIn, IsToldOf}
use Rattle.task_plan.proofs.held.Held.add_waiting.Given as goal

abbrev pub invariant-loop-target : goal.invariant-loop-target
invariant-loop-target l = record {
  finds : FindsIn (λ r. WaitsOn l.states (map kept_of l.tasks) (lists_of l.files.waiters.items) r l.fn.rule.0) l.fn.fault l.initial.self l.self;
  all : (n : ℕ) (target : NodeId) → n < l.target-index → slice_get l.targets n ≡ Some target
      → (r : ℕ) → IsToldOf l.states (map kept_of l.tasks) (waiters_of (lists_of l.files.waiters.items) target.0) target r → is_seen l.self.seen.items r ≡ true;
}
