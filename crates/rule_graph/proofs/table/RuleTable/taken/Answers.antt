use Rattle.std.proofs.Common.{◌∙◌, sym}
use Rattle.std.specs.Prelude.{is_some}
use Rattle.rule_graph.specs.Rules.{rule_of}
use Rattle.rule_graph.proofs.RuleLemmas.{find_past}
use Rattle.rule_graph.proofs.table.RuleTable.taken.Goals as goal

pub loop-node-preserved : goal.loop-node-preserved
loop-node-preserved c =
    sym (find_past (λ t. is_some (rule_of c.args.self.now t.0)) c.args.nodes.now c.loop-node.node-index record { 0 = 0 } c.loop-node-test.true (sym c.has_rule.ensures ∙ c.if-has_rule.false))
    ∙ c.loop-node.invariant
