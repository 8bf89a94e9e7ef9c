use Rattle.std.proofs.Common.{◌<◌, length, refl, rules, map, arith}
use Rattle.std.proofs.lemmas.List.{map-append}
use Rattle.job_runner.proofs.Found.{map_remove, none_before, number_at}
use Rattle.job_runner.proofs.Places.{each_once, one_taken}
use Rattle.job_runner.proofs.Replays.{ended_next}
use Rattle.job_runner.proofs.board.Board.put_at.Goals as goal

pub invariant_of-self-clause-replays : goal.invariant_of-self-clause-replays
invariant_of-self-clause-replays c =
    let board = c.args.self.now in
    let inside : c.args.place < length board.taken.items = omega (arith, board.taken.ok.0) in
    let at = number_at board.taken.items c.args.place c.args.number _ c.remove.result c.requires.own in
    let few = one_taken _ c.args.number board.once in
    rw (c.remove.ensures.items, c.add_last.ensures.items, c.add.ensures.items)
    (ended_next c.args.number _ _ board.waiting.items board.taken.items board.ended.items board.history.items c.args.place c.remove.result _ board.replays inside at
    (none_before board.taken.items c.args.place c.args.number c.remove.result few inside at) refl refl)

pub invariant_of-self-clause-once : goal.invariant_of-self-clause-once
invariant_of-self-clause-once c = each_once _ _ (invariant_of-self-clause-replays c)

pub returns : goal.returns
returns c = record {
  place = c.args.place;
  own = c.requires.own;
  lists = rw (c.remove.ensures.items, c.add_last.ensures.items, c.add.ensures.items, map_remove, map-append) refl;
}
