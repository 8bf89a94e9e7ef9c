use Rattle.std.proofs.Common.{◌≡◌, drop, map}
use Rattle.py_tree.specs.Tree.{trees, piece_tree}
use Rattle.py_steps.specs.Growths.{put_pieces}
use Rattle.py_steps.proofs.texts.put_pieces.Given as goal

abbrev pub invariant-pieces : goal.invariant-pieces
invariant-pieces l = put_pieces l.heap l.whole (trees (map piece_tree (drop l.piece-index l.pieces))) l.left ≡ put_pieces l.heap l.initial.whole (trees (map piece_tree l.pieces)) l.initial.left
