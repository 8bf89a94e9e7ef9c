use Rattle.rule_graph.proofs.graph.Graph.rule.Goals as goal

pub returns-clause-valid : goal.returns-clause-valid
returns-clause-valid c = rw (← c.self.view_is) (c.self.invariant.each_rule c.args.id.0 c.rule.result.now c.rule.ensures)
