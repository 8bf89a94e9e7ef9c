use Rattle.std.proofs.Common.{◌≡◌, ◌+◌, drop}
use Rattle.std.specs.List.{prefix_len}
use Rattle.scons_rules.specs.Lines.{is_mark}
use Rattle.scons_rules.proofs.line.marks_len.Given as goal

abbrev pub invariant-loop-place : goal.invariant-loop-place
invariant-loop-place l = prefix_len is_mark l.line ≡ l.place + prefix_len is_mark (drop l.place l.line)
