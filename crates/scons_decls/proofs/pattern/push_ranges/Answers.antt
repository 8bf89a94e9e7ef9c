use Rattle.std.proofs.Common.{arith, ◌≡◌, ◌++◌, ◌∙◌, ap, sym}
use Rattle.scons_decls.specs.Patterns.{items_of, range}
use Rattle.scons_decls.proofs.Matching.{one_passed, one_begun, all_read}
use Rattle.scons_decls.proofs.pattern.push_ranges.Goals as goal
use Rattle.scons_decls.proofs.pattern.push_ranges.Goals.{then-passed-gt0, else-passed-gt0+in_ok-push}

pub loop-place-preserved : goal.loop-place-preserved
loop-place-preserved c =
    elim c.if-passed-gt0.branch [
      | then-passed-gt0 w ↦ one_passed range c.loop-place.ranges _ c.args.set.now c.loop-place.place c.loop-place.passed _ c.index-set-place.result _ c.loop-place-test.true w.if-passed-gt0.true w.ranges-is w.passed-is c.loop-place.invariant
      | else-passed-gt0+in_ok-push w ↦ one_begun range c.loop-place.ranges _ c.args.set.now c.loop-place.place _ c.loop-place.passed c.index-set-place.result w.range-more.result _ c.loop-place-test.true c.index-set-place.is w.if-passed-gt0.false (w.range-more.ensures) (w.ranges-is ∙ (w.in_ok-push.ensures {u = tt}).ok) w.passed-is c.loop-place.invariant
    ]

pub returns : goal.returns
returns c = all_read range c.loop-place.ranges c.args.set.now c.loop-place.place c.loop-place.passed _ c.loop-place-test.false c.loop-place.invariant
