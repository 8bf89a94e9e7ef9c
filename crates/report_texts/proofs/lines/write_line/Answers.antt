use Rattle.std.proofs.Common.{append_assoc, ◌∙◌}
use Rattle.report_texts.proofs.lines.write_line.Goals as goal

pub returns : goal.returns
returns c = c.in_ok-format.ensures.ok ∙ simp (append_assoc, c.as_str-target.ensures)
