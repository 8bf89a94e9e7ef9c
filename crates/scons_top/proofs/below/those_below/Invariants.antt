use Rattle.std.proofs.Common.{◌≡◌, drop, take}
use Rattle.rule_graph.specs.Graphs.{RuleGraph}
use Rattle.scons_top.specs.Below.{nodes_below}
use Rattle.scons_top.specs.Requested.{AreNodes, HaveNodes}
use Rattle.scons_top.proofs.below.those_below.Given as goal

abbrev pub invariant-loop-path : goal.invariant-loop-path
invariant-loop-path l = record {
  nodes : (graph : RuleGraph) → HaveNodes graph l.fn.targets → AreNodes graph l.nodes.items;
  those : l.nodes.items ≡ nodes_below l.dir (take l.path-index (drop l.first l.fn.targets));
}
