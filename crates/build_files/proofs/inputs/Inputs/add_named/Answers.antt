use Rattle.build_files.proofs.Copying.{grew_same}
use Rattle.build_files.proofs.inputs.Inputs.add_named.Goals as goal

pub returns-in_err-rule_at-clause-grows : goal.returns-in_err-rule_at-clause-grows
returns-in_err-rule_at-clause-grows g c = grew_same c.args.graph.now

pub returns-in_err-nodes-clause-grows : goal.returns-in_err-nodes-clause-grows
returns-in_err-nodes-clause-grows g c = grew_same c.args.graph.now
