use Rattle.std.proofs.Common.{◌≡◌, take, false, List}
use Rattle.scons_base.specs.declared.ids.RuleId.{RuleId}
use Rattle.scons_top.specs.RunLines.{AreMarks, has_started}
use Rattle.scons_top.proofs.ending.has_marked.Given as goal

abbrev pub invariant-loop-node : goal.invariant-loop-node
invariant-loop-node l = (started : List RuleId) → AreMarks l.fn.graph started l.fn.marks → has_started l.fn.graph started (take l.node-index l.nodes) ≡ false
