use Rattle.std.proofs.Common.{length}
use Rattle.rule_graph.proofs.GraphLemmas.{node_of_rule}
use Rattle.rule_graph.proofs.graph.Graph.rule_of.Goals as goal

pub returns-clause-node : goal.returns-clause-node
returns-clause-node c =
    rw (← c.self.view_is)
    (node_of_rule c.rule_of.result (length c.self.inside.nodes) c.self.inside.rules c.self.inside.aliases c.args.node.0 c.self.invariant c.rule_of.ensures.of)
