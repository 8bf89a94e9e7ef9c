use Rattle.std.proofs.Common.{◌≡◌, take}
use Rattle.rule_graph.specs.Graphs.{RuleGraph}
use Rattle.scons_top.specs.Requested.{AreNodes, AskForNodes, nodes_asked}
use Rattle.scons_top.proofs.build_step.nodes_of.Given as goal

abbrev pub invariant-loop-request : goal.invariant-loop-request
invariant-loop-request l = record {
  are : l.nodes.items ≡ nodes_asked (take l.request-index l.requests);
  nodes : (graph : RuleGraph) → AskForNodes graph l.fn.requests → AreNodes graph l.nodes.items;
}
