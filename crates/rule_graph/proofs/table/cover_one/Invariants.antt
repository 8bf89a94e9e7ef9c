use Rattle.std.proofs.Common.{◌≡◌, ◌≤◌, ◌+◌, ◌-◌, ℕ, length, vec_len}
use Rattle.rule_graph.specs.Rules.{rule_at}
use Rattle.rule_graph.proofs.table.cover_one.Given as goal

abbrev pub invariant-loop-node : goal.invariant-loop-node
invariant-loop-node l = record {
  same : (n : ℕ) → rule_at l.table.items n ≡ rule_at l.initial.table.items n;
  grows : length l.initial.table.items ≤ length l.table.items;
}

abbrev pub decreases-loop-node : goal.decreases-loop-node
decreases-loop-node l = l.node.0 + 1 - vec_len l.table
