use Rattle.std.proofs.Common.{take}
use Rattle.scons_report.specs.Rings.{AreFirstTargets}
use Rattle.scons_report.proofs.dry.first_targets.Given as goal

abbrev pub invariant-loop-rule : goal.invariant-loop-rule
invariant-loop-rule l = AreFirstTargets l.graph (take l.rule-index l.rules) l.paths.items
