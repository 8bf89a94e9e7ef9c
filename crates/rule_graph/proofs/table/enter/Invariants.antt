use Rattle.std.proofs.Common.{◌≡◌, ℕ, Some, take, drop, length, true}
use Rattle.std.specs.Prelude.{if◌then◌else◌}
use Rattle.rule_graph.specs.Rules.{rule_at, is_target_of, are_below}
use Rattle.rule_graph.proofs.table.enter.Given as goal

-- the nodes passed have the rule
abbrev pub invariant-loop-node : goal.invariant-loop-node
invariant-loop-node l = record {
  entered : (n : ℕ) → rule_at l.table.items n ≡ (if is_target_of (take l.node-index l.nodes) n then Some l.id.0 else rule_at l.initial.table.items n);
  below : are_below (length l.table.items) (drop l.node-index l.nodes) ≡ true;
}
