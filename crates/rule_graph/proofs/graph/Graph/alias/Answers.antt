use denote.Bor.{Bor}
use Rattle.std.proofs.Common.{List, length}
use Rattle.scons_base.specs.declared.ids.NodeId.{NodeId}
use Rattle.rule_graph.proofs.GraphLemmas.{some_below}
use Rattle.rule_graph.proofs.graph.Graph.alias.Goals as goal

pub returns-clause-below : goal.returns-clause-below
returns-clause-below c =
    rw (← c.self.view_is)
    (some_below (λ (m : Bor (List NodeId)). m.now) c.get.result (length c.self.inside.nodes) c.self.inside.aliases c.args.name.now c.self.invariant.each_alias c.get.ensures)
