-- The pieces of the line stand one after the other.
use Rattle.std.proofs.Common.{append_assoc, ◌∙◌}
use Rattle.scons_top.proofs.texts.usage_text.Goals as goal

pub returns : goal.returns
returns c = c.in_ok-format.ensures.ok ∙ simp (append_assoc, c.name-kind.ensures)
