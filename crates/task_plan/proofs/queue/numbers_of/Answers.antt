use Rattle.std.proofs.Common.{◌<◌, length, arith}
use Rattle.std.proofs.lemmas.Option.{slice_get-get_or}
use Rattle.task_plan.proofs.QueueLemmas.{numbers_more, placed_more}
use Rattle.task_plan.proofs.queue.numbers_of.Goals as goal

pub loop-place-preserved : goal.loop-place-preserved
loop-place-preserved c =
    let lt : c.loop-place.place < length c.args.rules.now = omega arith in
    let at = slice_get-get_or c.args.rules.now c.loop-place.place _ lt in
    let i = c.loop-place.invariant in
    rw c.note_place.ensures
    (record {
      numbers = numbers_more c.args.rules.now c.loop-place.place _ c.loop-place.numbers.items i.numbers at;
      placed = placed_more c.args.rules.now c.args.count c.loop-place.place _ c.loop-place.numbers.items i.placed at;
    })
