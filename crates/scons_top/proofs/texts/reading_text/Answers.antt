-- The pieces of the line stand one after the other.
use Rattle.std.proofs.Common.{append_assoc, ◌∙◌, string_bytes}
use Rattle.scons_top.proofs.texts.reading_text.Goals as goal

pub returns : goal.returns
returns c = (string_bytes c.in_ok-why.why, c.in_ok-why.ensures, c.in_ok-format.ensures.ok ∙ simp (append_assoc, c.as_str-file.ensures, c.as_str-why.ensures.value))
