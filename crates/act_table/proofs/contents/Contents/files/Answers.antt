use Rattle.std.proofs.Common.{◌∙◌, ap, sym, ◌+◌, arith}
use Rattle.act_table.proofs.FileCounts.{files-one_more, files-none_more}
use Rattle.act_table.proofs.contents.Contents.files.Goals as goal
use Rattle.act_table.proofs.contents.Contents.files.Goals.{then-is_some, else-is_some}

pub loop-content-preserved : goal.loop-content-preserved
loop-content-preserved c =
    let items = c.deref-content-items.result.now in
    let index = c.loop-content.content-index in
    let entry = c.loop-content-item.result in
    let lt = c.loop-content-test.true in
    elim c.if-is_some.branch [
      | then-is_some w ↦ record {
        counted = w.count-is ∙ ap (λ n. n + 1) c.loop-content.invariant.counted ∙ sym (files-one_more items index entry lt c.loop-content-item.is (sym c.is_some.ensures ∙ w.if-is_some.true));
        small = omega (arith, w.count-is, c.loop-content.invariant.small);
      }
      | else-is_some w ↦ record {
        counted = w.count-is ∙ c.loop-content.invariant.counted ∙ sym (files-none_more items index entry lt c.loop-content-item.is (sym c.is_some.ensures ∙ w.if-is_some.false));
        small = omega (arith, w.count-is, c.loop-content.invariant.small);
      }
    ]
