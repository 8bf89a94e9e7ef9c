use Rattle.std.proofs.Common.{length}
use Rattle.rule_graph.proofs.GraphLemmas.{rule_added}
use Rattle.rule_graph.proofs.graph.Graph.add_rule.Goals as goal

pub invariant_of-self-2 : goal.invariant_of-self-2
invariant_of-self-2 c =
    rw ((c.in_ok-push.ensures {u = tt}).ok.1)
    (rule_added (length c.self.inside.nodes) c.self.inside.rules c.self.inside.aliases c.args.rule c.self.invariant (rw (← c.self.view_is) at c.requires))
