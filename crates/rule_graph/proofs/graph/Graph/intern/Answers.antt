use Rattle.std.proofs.Common.{length}
use Rattle.rule_graph.proofs.GraphLemmas.{graph_more, intern_grows}
use Rattle.rule_graph.proofs.graph.Graph.intern.Goals as goal

pub invariant_of-self : goal.invariant_of-self
invariant_of-self c =
    graph_more (length c.self.inside.nodes) (length c.intern.new.self) c.self.inside.rules c.self.inside.aliases
    (intern_grows c.intern.result c.self.inside.nodes c.args.path.now c.intern.new.self c.intern.ensures.ok c.intern.ensures.err) c.self.invariant
