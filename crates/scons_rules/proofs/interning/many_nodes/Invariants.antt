use Rattle.std.proofs.Common.{◌≡◌, map, take}
use Rattle.scons_rules.specs.Numbers.{each_once, Numbers}
use Rattle.scons_rules.proofs.interning.many_nodes.Given as goal

abbrev pub invariant-loop-one : goal.invariant-loop-one
invariant-loop-one g l = record {
  numbers : Numbers l.initial.graph.nodes l.graph.nodes (each_once (map g.T.HasPath.path_at (take l.one-index l.paths))) l.nodes;
  seen : map (λ p. p.now) l.seen.keys ≡ each_once (map g.T.HasPath.path_at (take l.one-index l.paths));
  rest : l.graph ≡ record l.initial.graph { nodes = l.graph.nodes };
}
