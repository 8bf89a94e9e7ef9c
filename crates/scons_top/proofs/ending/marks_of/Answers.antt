use Rattle.std.proofs.Common.{refl}
use Rattle.scons_top.proofs.Marking.{marks_more}
use Rattle.scons_top.proofs.ending.marks_of.Goals as goal

pub loop-rule-preserved : goal.loop-rule-preserved
loop-rule-preserved c =
    marks_more c.args.graph.now c.args.started.now c.loop-rule.rule-index _ _ c.loop-rule.marks.items _ c.loop-rule-test.true refl c.mark.ensures c.loop-rule.invariant
