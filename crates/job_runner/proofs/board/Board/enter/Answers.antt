use Rattle.std.proofs.Common.{refl, rules}
use Rattle.job_runner.proofs.Places.{each_once}
use Rattle.job_runner.proofs.Replays.{handed_in_next}
use Rattle.job_runner.proofs.board.Board.enter.Goals as goal

pub invariant_of-self-clause-replays : goal.invariant_of-self-clause-replays
invariant_of-self-clause-replays c =
    let board = c.args.self.now in
    rw (c.add.ensures.items, c.add_last.ensures.items) (handed_in_next _ board.waiting.items board.taken.items board.ended.items board.history.items _ board.replays refl)

pub invariant_of-self-clause-once : goal.invariant_of-self-clause-once
invariant_of-self-clause-once c = each_once _ _ (invariant_of-self-clause-replays c)
