use Rattle.std.proofs.Common.{arith, ◌<◌, length}
use Rattle.std.proofs.lemmas.Option.{slice_get_within}
use Rattle.task_plan.proofs.CycleLemmas.{cycle_from}
use Rattle.task_plan.proofs.cycles.Walk.chain_from.Goals as goal

pub place_of-first-requires : goal.place_of-first-requires
place_of-first-requires c = rw c.as_slice.ensures.value c.requires

pub split_off-requires : goal.split_off-requires
split_off-requires c =
    let chain = c.args.self.chain.items in
    let lt : c.place_of-first.result < length chain = slice_get_within chain c.place_of-first.result c.args.rule (rw c.as_slice.ensures.value at c.place_of-first.ensures) in
    omega (arith, c.args.self.chain.ok.0)

pub returns : goal.returns
returns c = λ st k o b.
    rw c.in_ok-split_off.ensures.tail
    (cycle_from st k o c.args.self.chain.items c.place_of-first.result c.args.rule b (rw c.as_slice.ensures.value at c.place_of-first.ensures))
