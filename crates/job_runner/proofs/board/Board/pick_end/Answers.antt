use Rattle.std.proofs.Common.{refl, rules}
use Rattle.job_runner.proofs.Places.{each_once}
use Rattle.job_runner.proofs.Replays.{picked_end_next}
use Rattle.job_runner.proofs.board.Board.pick_end.Goals as goal

pub invariant_of-self-2-clause-replays : goal.invariant_of-self-2-clause-replays
invariant_of-self-2-clause-replays c =
    let board = c.args.self.now in
    rw c.add.ensures.items (picked_end_next _ _ _ board.waiting.items board.taken.items board.ended.items _ board.history.items c.in_ok-oldest.oldest board.replays c.in_ok-oldest.ensures.items refl refl)

pub invariant_of-self-2-clause-once : goal.invariant_of-self-2-clause-once
invariant_of-self-2-clause-once c = each_once _ _ (invariant_of-self-2-clause-replays c)
