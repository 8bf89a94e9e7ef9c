use Rattle.std.proofs.Common.{◌≡◌, ◌≤◌, ◌-◌, ℕ, length}
use Rattle.task_plan.specs.Settled.{origin_of}
use Rattle.task_plan.specs.Noted.{lists_of, waiters_of}
use Rattle.task_plan.proofs.files.Files.reach.Given as goal

abbrev pub invariant-loop-self : goal.invariant-loop-self
invariant-loop-self l = record {
  same : (n : ℕ) → origin_of l.self.origins.items n ≡ origin_of l.initial.self.origins.items n;
  longer : length l.initial.self.origins.items ≤ length l.self.origins.items;
  told : (n : ℕ) → waiters_of (lists_of l.self.waiters.items) n ≡ waiters_of (lists_of l.initial.self.waiters.items) n;
  lists : length l.initial.self.origins.items ≤ length l.initial.self.waiters.items → length l.self.origins.items ≤ length l.self.waiters.items;
}

abbrev pub decreases-loop-self : goal.decreases-loop-self
decreases-loop-self l = l.nodes - length l.self.origins.items
