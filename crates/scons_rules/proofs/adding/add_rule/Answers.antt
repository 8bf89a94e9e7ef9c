use Rattle.std.proofs.Common.{◌∙◌, ap, sym}
use Rattle.std.specs.Prelude.{Err}
use Rattle.std.proofs.lemmas.Result.{err_from_is_err_and}
use Rattle.rule_graph.specs.Graphs.{RuleGraph}
use Rattle.scons_rules.specs.Expanding.{expanding}
use Rattle.scons_rules.specs.Nodes.{lists_of}
use Rattle.scons_rules.proofs.Walking.{on_ok}
use Rattle.scons_rules.proofs.Finding.{on_err}
use Rattle.scons_rules.proofs.Growing.{not_numbered, of_mid, rule_put, rule_refused}
use Rattle.scons_rules.proofs.adding.add_rule.Goals as goal

pub returns-in_err-nodes-clause-fault : goal.returns-in_err-nodes-clause-fault
returns-in_err-nodes-clause-fault c =
    let told = err_from_is_err_and c.from_residual-in_err-nodes.result c.from_residual-in_err-nodes.ensures.1 in
    rw told.1 (λ other.
    not_numbered (expanding c.args.rule.now) c.in_ok-making.making c.args.said.now c.args.libraries.now c.args.graph.now c.laws.ensures.named c.in_ok-making.ensures.ok
    told.0 (lists_of c.in_ok-paths.paths) c.in_ok-paths.ensures.lists (c.in_err-nodes.ensures.fault (λ h. other (told.2 ∙ h)) ∙ ap Err (sym told.2)))

pub returns-clause-ok : goal.returns-clause-ok
returns-clause-ok c =
    on_ok c.put.result c.put.ensures.ok (λ put.
    rule_put (expanding c.args.rule.now) c.in_ok-making.making c.args.said.now c.args.libraries.now c.args.graph.now c.laws.ensures.named c.in_ok-making.ensures.ok
    c.rule_nodes.new.graph.nodes c.in_ok-paths.paths c.in_ok-nodes.nodes c.in_ok-paths.ensures.lists c.in_ok-nodes.ensures.ok c.in_ok-nodes.ensures.named c.put.new.graph
    (of_mid (expanding c.args.rule.now) c.in_ok-making.making c.args.said.now c.args.libraries.now c.args.graph.now c.laws.ensures.named c.in_ok-making.ensures.ok
    c.rule_nodes.new.graph.nodes c.in_ok-paths.paths c.in_ok-nodes.nodes c.in_ok-paths.ensures.lists c.in_ok-nodes.ensures.ok c.in_ok-nodes.ensures.named
    c.rule_nodes.new.graph c.rule_of.result c.rule_nodes.ensures.rest c.rule_of.ensures.of ∙ put)
    (c.put.ensures.rest ∙ ap (λ (h : RuleGraph). record h { rules = c.put.new.graph.rules }) c.rule_nodes.ensures.rest))

pub returns-clause-fault : goal.returns-clause-fault
returns-clause-fault c =
    on_err c.put.result c.put.ensures.fault (λ e told other.
    rule_refused (expanding c.args.rule.now) c.in_ok-making.making c.args.said.now c.args.libraries.now c.args.graph.now c.laws.ensures.named c.in_ok-making.ensures.ok
    c.rule_nodes.new.graph.nodes c.in_ok-paths.paths c.in_ok-nodes.nodes c.in_ok-paths.ensures.lists c.in_ok-nodes.ensures.ok c.in_ok-nodes.ensures.named e
    (of_mid (expanding c.args.rule.now) c.in_ok-making.making c.args.said.now c.args.libraries.now c.args.graph.now c.laws.ensures.named c.in_ok-making.ensures.ok
    c.rule_nodes.new.graph.nodes c.in_ok-paths.paths c.in_ok-nodes.nodes c.in_ok-paths.ensures.lists c.in_ok-nodes.ensures.ok c.in_ok-nodes.ensures.named
    c.rule_nodes.new.graph c.rule_of.result c.rule_nodes.ensures.rest c.rule_of.ensures.of ∙ told other))
