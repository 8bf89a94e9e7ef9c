use Rattle.build_files.proofs.Copying.{grew_same}
use Rattle.build_files.proofs.inputs.Inputs.add_found.Goals as goal

pub returns-then-not-has_copies-clause-grows : goal.returns-then-not-has_copies-clause-grows
returns-then-not-has_copies-clause-grows g c = grew_same c.args.graph.now

pub returns-in_err-rule_at-clause-grows : goal.returns-in_err-rule_at-clause-grows
returns-in_err-rule_at-clause-grows g c = grew_same c.args.graph.now

pub returns-in_err-kept-clause-grows : goal.returns-in_err-kept-clause-grows
returns-in_err-kept-clause-grows g c = grew_same c.args.graph.now
