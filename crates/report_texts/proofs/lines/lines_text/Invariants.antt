use Rattle.std.proofs.Common.{◌≡◌, ◌++◌, drop, string_bytes}
use Rattle.report_texts.specs.Lines.{lines_text}
use Rattle.report_texts.proofs.lines.lines_text.Given as goal

abbrev pub invariant-loop-line : goal.invariant-loop-line
invariant-loop-line l = string_bytes l.text ++ lines_text (drop l.line-index l.lines) ≡ lines_text l.lines
