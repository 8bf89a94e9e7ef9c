use Rattle.std.proofs.Common.{◌∙◌, ap}
use Rattle.rule_graph.specs.Aliases.{with_members}
use Rattle.rule_graph.specs.Graphs.{RuleGraph}
use Rattle.scons_base.specs.declared.ids.NodeId.{NodeId}
use Rattle.std.specs.Prelude.{List}
use Rattle.scons_rules.proofs.Growing.{alias_put}
use Rattle.scons_rules.proofs.finish.add_named.Goals as goal

pub returns-clause-ok : goal.returns-clause-ok
returns-clause-ok c =
    alias_put c.args.graph.now c.laws.ensures.named c.args.name.now c.args.files.now c.nodes_of.new.graph.nodes c.in_ok-nodes.nodes c.add_alias.new.self
    c.in_ok-nodes.ensures.nodes c.in_ok-nodes.ensures.ok
    (c.in_ok-add_alias.ensures.ok
    ∙ ap (λ (m : List NodeId). record c.nodes_of.new.graph { aliases = with_members c.nodes_of.new.graph.aliases c.args.name.now m }) c.as_slice.ensures
    ∙ ap (λ (h : RuleGraph). record h { aliases = with_members h.aliases c.args.name.now c.in_ok-nodes.nodes }) c.nodes_of.ensures.rest)
