use Rattle.std.proofs.Common.{◌≡◌, drop}
use Rattle.rule_graph.specs.Rules.{taken}
use Rattle.rule_graph.proofs.table.RuleTable.taken.Given as goal

-- none of the nodes passed has a rule
abbrev pub invariant-loop-node : goal.invariant-loop-node
invariant-loop-node l = taken l.self (drop l.node-index l.nodes) ≡ taken l.self l.nodes
