use Rattle.build_files.proofs.Marking.{looked_again}
use Rattle.build_files.proofs.inputs.Inputs.add_rule.Goals as goal

pub returns-else-branch-clause-looked : goal.returns-else-branch-clause-looked
returns-else-branch-clause-looked c =
    looked_again c.args.graph.now c.args.self.now c.look_at.new.self c.in-Some.rule.0 c.in_ok-look_at.field-0 c.args.rules.now.items c.look_at.ensures.looks c.in_ok-look_at.ensures.marks c.if-branch.false
