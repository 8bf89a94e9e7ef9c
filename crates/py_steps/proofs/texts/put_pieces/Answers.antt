use Rattle.py_steps.proofs.Growing.{pieces_turn}
use Rattle.py_steps.proofs.texts.put_pieces.Goals as goal

pub pieces-preserved : goal.pieces-preserved
pieces-preserved c =
    pieces_turn c.args.heap.now c.args.pieces.now c.pieces.piece-index c.piece-item.result c.pieces.whole c.put.new.self _ c.characters_of.result.0.now c.pieces.left.now c.characters_of.result.1.now
    c.pieces-test.true c.piece-item.is c.pieces.invariant c.in_ok-put.ensures c.characters_of.ensures
