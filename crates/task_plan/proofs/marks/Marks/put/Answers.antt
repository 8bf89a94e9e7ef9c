use Rattle.std.proofs.Common.{◌≡◌, ◌∙◌, ◌/◌, ap}
use Rattle.std.specs.Prelude.{slice_set}
use Rattle.std.proofs.lemmas.List.{drop-set-add}
use Rattle.task_plan.specs.Marks.{below}
use Rattle.task_plan.proofs.MarkLemmas.{goes_on, leaves_kept}
use Rattle.task_plan.proofs.marks.Marks.put.Goals as goal

pub loop-place-preserved : goal.loop-place-preserved
loop-place-preserved c =
    let i = c.loop-place.self-inside in
    let w = c.loop-place.invariant.0 in
    let e : c.below-mark.result ≡ below i.tree.items (c.loop-place.place / 2) = rw c.as_slice.ensures.value at c.below-mark.ensures in (
      goes_on i.tree.items i.room c.loop-place.place c.below-mark.result w c.loop-place-test.true e,
      c.loop-place.invariant.1,
      leaves_kept i.tree.items i.room c.loop-place.place c.below-mark.result w ∙ c.loop-place.invariant.2,
    )

pub returns-after-loop-place : goal.returns-after-loop-place
returns-after-loop-place c =
    c.loop-place.invariant.2 ∙ drop-set-add c.self.inside.room c.self.inside.tree.items c.args.number c.args.is_member
    ∙ ap (λ xs. slice_set xs c.args.number c.args.is_member) c.self.view_is
