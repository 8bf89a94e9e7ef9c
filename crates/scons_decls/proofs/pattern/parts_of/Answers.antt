use Rattle.std.proofs.Common.{arith, ◌≡◌, ◌++◌, ◌∙◌, ap, sym}
use Rattle.scons_decls.specs.Patterns.{items_of, begun}
use Rattle.scons_decls.proofs.Matching.{one_passed, one_begun, all_read}
use Rattle.scons_decls.proofs.pattern.parts_of.Goals as goal
use Rattle.scons_decls.proofs.pattern.parts_of.Goals.{then-passed-gt0, else-passed-gt0+in_ok-part+in_ok-push}

pub loop-place-init : goal.loop-place-init
loop-place-init c = ap (λ l. l ++ items_of begun 0 c.args.chars.now) c.empty-parts.ensures

pub loop-place-preserved : goal.loop-place-preserved
loop-place-preserved c =
    elim c.if-passed-gt0.branch [
      | then-passed-gt0 w ↦ one_passed begun c.loop-place.parts _ c.args.chars.now c.loop-place.place c.loop-place.passed _ c.index-chars-place.result _ c.loop-place-test.true w.if-passed-gt0.true w.parts-is w.passed-is c.loop-place.invariant
      | else-passed-gt0+in_ok-part+in_ok-push w ↦ one_begun begun c.loop-place.parts _ c.args.chars.now c.loop-place.place _ c.loop-place.passed c.index-chars-place.result (w.in_ok-part.part, w.in_ok-part.more) _ c.loop-place-test.true c.index-chars-place.is w.if-passed-gt0.false (w.in_ok-part.ensures {u = tt}) (w.parts-is ∙ (w.in_ok-push.ensures {u = tt}).ok) w.passed-is c.loop-place.invariant
    ]

pub returns : goal.returns
returns c = all_read begun c.loop-place.parts c.args.chars.now c.loop-place.place c.loop-place.passed _ c.loop-place-test.false c.loop-place.invariant
