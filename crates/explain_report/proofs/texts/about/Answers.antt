use Rattle.std.proofs.Common.{append_assoc, ◌∙◌}
use Rattle.explain_report.proofs.texts.about.Goals as goal

pub returns : goal.returns
returns c = c.in_ok-format.ensures.ok ∙ simp append_assoc
