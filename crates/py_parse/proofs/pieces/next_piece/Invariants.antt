use Rattle.std.proofs.Common.{ℕ, ◌≤◌, length, map}
use Rattle.py_tree.specs.Tree.{piece_tree}
use Rattle.py_parse.specs.Open.{pieces_from}
use Rattle.py_parse.specs.Reading.{Outcome, Reads}
use Rattle.py_parse.proofs.pieces.next_piece.Given as goal

abbrev pub invariant-pieces : goal.invariant-pieces
invariant-pieces l =
    ((d : ℕ) (o : Outcome) → Reads d (pieces_from l.inside l.line (map piece_tree l.pieces.items)) l.rest o →
    Reads d (pieces_from l.initial.inside l.line (map piece_tree l.initial.pieces.items)) l.initial.rest o) ×
    (length l.rest ≤ length l.initial.rest)

abbrev pub decreases-pieces : goal.decreases-pieces
decreases-pieces l = length l.rest
