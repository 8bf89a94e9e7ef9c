use Rattle.std.proofs.Common.{◌≡◌, map, take}
use Rattle.scons_rules.specs.Numbers.{each_once, Numbers}
use Rattle.scons_rules.proofs.interning.few_nodes.Given as goal

abbrev pub invariant-loop-place : goal.invariant-loop-place
invariant-loop-place g l = record {
  numbers : Numbers l.initial.graph.nodes l.graph.nodes (each_once (map g.T.HasPath.path_at (take l.place l.paths))) l.nodes;
  rest : l.graph ≡ record l.initial.graph { nodes = l.graph.nodes };
}
