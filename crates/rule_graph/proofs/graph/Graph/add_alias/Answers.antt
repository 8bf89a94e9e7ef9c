use Rattle.std.proofs.Common.{length}
use Rattle.rule_graph.proofs.GraphLemmas.{alias_kept}
use Rattle.rule_graph.proofs.graph.Graph.add_alias.Goals as goal

pub invariant_of-self : goal.invariant_of-self
invariant_of-self c =
    alias_kept c.add.result (length c.self.inside.nodes) c.self.inside.rules c.self.inside.aliases c.add.new.self c.args.name.now c.args.members.now
    c.add.ensures.ok c.add.ensures.err c.self.invariant (rw (← c.self.view_is) at c.requires)
