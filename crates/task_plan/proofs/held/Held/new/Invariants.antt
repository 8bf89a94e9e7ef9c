use Rattle.std.proofs.Common.{◌≡◌, ◌<◌, ℕ, length, take}
use Rattle.task_plan.specs.Orders.{is_among}
use Rattle.task_plan.specs.Walks.{is_seen}
use Rattle.task_plan.proofs.held.Held.new.Given as goal

abbrev pub invariant-loop-fault : goal.invariant-loop-fault
invariant-loop-fault l = record {
  size : length l.seen.items ≡ l.rules;
  same : (rule : ℕ) → rule < l.rules → is_seen l.seen.items rule ≡ is_among rule (take l.fault-index l.faulty);
}
