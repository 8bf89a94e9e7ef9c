use Rattle.std.proofs.Common.{◌≡◌, ℕ, length, take, true}
use Rattle.rule_graph.specs.Rules.{rule_at, are_below}
use Rattle.rule_graph.proofs.table.cover.Given as goal

abbrev pub invariant-loop-node : goal.invariant-loop-node
invariant-loop-node l = record {
  same : (n : ℕ) → rule_at l.table.items n ≡ rule_at l.initial.table.items n;
  covered : are_below (length l.table.items) (take l.node-index l.nodes) ≡ true;
}
