use Rattle.std.proofs.Common.{◌≡◌, drop, map}
use Rattle.py_text.specs.Views.{plain_piece}
use Rattle.py_compare.specs.Growing.{grown}
use Rattle.py_operators.specs.Remainders.{pieces_onto}
use Rattle.py_operators.proofs.remainders.push_pieces.Given as goal

abbrev pub invariant-pieces : goal.invariant-pieces
invariant-pieces l = pieces_onto grown l.heap l.text l.budget (map plain_piece (drop l.piece-index l.pieces)) l.left ≡ pieces_onto grown l.heap l.initial.text l.initial.budget (map plain_piece l.pieces) l.initial.left
