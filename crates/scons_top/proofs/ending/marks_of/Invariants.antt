use Rattle.std.proofs.Common.{take}
use Rattle.scons_top.specs.RunLines.{AreMarks}
use Rattle.scons_top.proofs.ending.marks_of.Given as goal

abbrev pub invariant-loop-rule : goal.invariant-loop-rule
invariant-loop-rule l = AreMarks l.fn.graph (take l.rule-index l.started) l.marks.items
