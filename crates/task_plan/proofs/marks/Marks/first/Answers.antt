use Rattle.std.proofs.Common.{◌≡◌, ◌∙◌, ◌^◌, false, sym, arith, ap}
use Rattle.task_plan.specs.Marks.{mark_at}
use Rattle.task_plan.proofs.MarkLemmas.{IsLeast, few_first, first_unmarked, first_least, next_level, within_tree}
use Rattle.task_plan.proofs.marks.Marks.first.Goals as goal

pub returns-then-not-is_marked-clause-first : goal.returns-then-not-is_marked-clause-first
returns-then-not-is_marked-clause-first c =
    let i = c.self.inside in
    let v = c.as_slice.ensures.value in
    let e = c.is_marked.ensures in
    let f = c.if-not-is_marked.true in
    let none : mark_at i.tree.items 1 ≡ false = cc in
    rw (sym c.self.view_is) (first_unmarked i.tree.items i.room i.levels c.self.invariant.1 c.self.invariant.0.power none)

pub marked_below-place-requires : goal.marked_below-place-requires
marked_below-place-requires c =
    let i = c.self.inside in
    rw c.as_slice-in-loop-level.ensures.value
    (within_tree i.tree.items i.room c.loop-level._level i.levels c.loop-level.place c.self.invariant.1 c.loop-level-test.true c.self.invariant.0.power c.loop-level.invariant)

pub loop-level-preserved : goal.loop-level-preserved
loop-level-preserved c =
    let i = c.self.inside in
    let e = rw c.as_slice-in-loop-level.ensures.value at c.marked_below-place.ensures in
    rw e (next_level i.tree.items i.room c.loop-level._level i.levels c.loop-level.place c.self.invariant.1 c.loop-level-test.true c.self.invariant.0.power c.loop-level.invariant)

pub returns-clause-first : goal.returns-clause-first
returns-clause-first c =
    let i = c.self.inside in
    let end = c.loop-level.auto._level-end in
    let same : c.loop-level._level ≡ i.levels = omega arith in
    let e : 2 ^ c.loop-level._level ≡ i.room = ap (λ k. 2 ^ k) same ∙ sym c.self.invariant.0.power in
    let l : IsLeast i.tree.items i.room c.loop-level.place = rw e at c.loop-level.invariant in
    rw (sym c.self.view_is) (first_least i.tree.items i.room c.loop-level.place c.self.invariant.1 l)

pub returns-clause-few : goal.returns-clause-few
returns-clause-few c =
    let i = c.self.inside in
    let end = c.loop-level.auto._level-end in
    let same : c.loop-level._level ≡ i.levels = omega arith in
    let e : 2 ^ c.loop-level._level ≡ i.room = ap (λ k. 2 ^ k) same ∙ sym c.self.invariant.0.power in
    let l : IsLeast i.tree.items i.room c.loop-level.place = rw e at c.loop-level.invariant in
    few_first i.tree.items i.room i.levels c.loop-level.place c.self.invariant.0 c.self.invariant.1 l
