-- Each arm writes the pieces of its line one after the other.
use Rattle.std.proofs.Common.{append_assoc, ◌∙◌}
use Rattle.report_texts.proofs.faults.fault_text.Goals as goal

pub returns-in_ok-format-in-Missing : goal.returns-in_ok-format-in-Missing
returns-in_ok-format-in-Missing c = rw c.in-Missing.is (c.in_ok-format-in-Missing.ensures.ok ∙ simp (append_assoc, c.as_str-node.ensures, c.as_str-target.ensures))

pub returns-in_ok-format-in-ActionFailed : goal.returns-in_ok-format-in-ActionFailed
returns-in_ok-format-in-ActionFailed c = rw c.in-ActionFailed.is (c.in_ok-format-in-ActionFailed.ensures.ok ∙ simp (append_assoc, c.as_str-target-in-ActionFailed.ensures))

pub returns-in_ok-format-in-TreeFault : goal.returns-in_ok-format-in-TreeFault
returns-in_ok-format-in-TreeFault c = rw c.in-TreeFault.is (c.in_ok-format-in-TreeFault.ensures.ok ∙ simp (append_assoc, c.as_str-path.ensures))

pub returns-in_ok-format-in-StartFault : goal.returns-in_ok-format-in-StartFault
returns-in_ok-format-in-StartFault c = rw c.in-StartFault.is (c.in_ok-format-in-StartFault.ensures.ok ∙ simp (append_assoc, c.as_str-target-in-StartFault.ensures))

pub returns-in_ok-format-in-TooLarge : goal.returns-in_ok-format-in-TooLarge
returns-in_ok-format-in-TooLarge c = rw c.in-TooLarge.is (c.in_ok-format-in-TooLarge.ensures.ok ∙ simp (append_assoc, c.as_str-path-in-TooLarge.ensures))
