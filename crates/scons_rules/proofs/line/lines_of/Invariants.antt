use Rattle.std.proofs.Common.{◌≡◌, drop}
use Rattle.scons_rules.specs.ActionsLeft.{texts_in}
use Rattle.scons_rules.specs.Expanding.{expanding, command_of}
use Rattle.scons_rules.specs.Lines.{with_command, lines_by}
use Rattle.scons_rules.proofs.Stepping.{gathered}
use Rattle.scons_rules.proofs.line.lines_of.Given as goal

abbrev pub invariant-loop-text : goal.invariant-loop-text
invariant-loop-text l = gathered (command_of (expanding l.rule)) with_command l.lines (drop l.text-index (texts_in l.texts)) ≡ lines_by (expanding l.rule) (texts_in l.texts)
