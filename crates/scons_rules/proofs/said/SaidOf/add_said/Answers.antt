use Rattle.std.proofs.Common.{arith}
use Rattle.std.specs.Prelude.{slice_get}
use Rattle.scons_rules.proofs.Telling.{told_more}
use Rattle.scons_rules.proofs.said.SaidOf.add_said.Goals as goal

pub loop-number-preserved : goal.loop-number-preserved
loop-number-preserved c =
    told_more (slice_get c.args.self.now.sentences.items) c.deref-number-items.result.now c.loop-number.number-index _ _ _ (omega arith)
    c.loop-number.invariant (rw c.as_slice.ensures.value at c.in_ok-add_numbered.ensures)
