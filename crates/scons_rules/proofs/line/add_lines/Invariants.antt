use Rattle.std.proofs.Common.{◌≡◌, ◌++◌}
use Rattle.scons_rules.specs.Lines.{lines_behind}
use Rattle.scons_rules.proofs.line.add_lines.Given as goal

abbrev pub invariant-loop-line : goal.invariant-loop-line
invariant-loop-line l = l.lines ≡ l.initial.lines ++ lines_behind l.yielded
