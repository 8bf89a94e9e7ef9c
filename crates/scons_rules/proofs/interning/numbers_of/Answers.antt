use Rattle.std.proofs.Common.{map}
use Rattle.scons_rules.proofs.Counting.{ok_numbers, some_of}
use Rattle.scons_rules.proofs.interning.numbers_of.Goals as goal

pub returns-then-paths-gt-FEW-clause-ok : goal.returns-then-paths-gt-FEW-clause-ok
returns-then-paths-gt-FEW-clause-ok g c =
    ok_numbers c.many_nodes.result c.args.graph.now.nodes c.many_nodes.new.graph.nodes (map g.T.HasPath.path_at c.args.paths.now) c.many_nodes.ensures.nodes

pub returns-then-paths-gt-FEW-clause-some : goal.returns-then-paths-gt-FEW-clause-some
returns-then-paths-gt-FEW-clause-some g c =
    some_of g.T.HasPath.path_at c.args.paths.now c.many_nodes.result c.args.graph.now.nodes c.many_nodes.new.graph.nodes c.many_nodes.ensures.nodes

pub returns-else-paths-gt-FEW-clause-ok : goal.returns-else-paths-gt-FEW-clause-ok
returns-else-paths-gt-FEW-clause-ok g c =
    ok_numbers c.few_nodes.result c.args.graph.now.nodes c.few_nodes.new.graph.nodes (map g.T.HasPath.path_at c.args.paths.now) c.few_nodes.ensures.nodes

pub returns-else-paths-gt-FEW-clause-some : goal.returns-else-paths-gt-FEW-clause-some
returns-else-paths-gt-FEW-clause-some g c =
    some_of g.T.HasPath.path_at c.args.paths.now c.few_nodes.result c.args.graph.now.nodes c.few_nodes.new.graph.nodes c.few_nodes.ensures.nodes
