use Rattle.std.proofs.Common.{length, map}
use denote.Text.{Utf8}
use denote.Shadow.{shadow}
use Rattle.py_text.specs.Views.{plain_piece}
use Rattle.py_text.proofs.FormatLemmas.{Read}
use Rattle.py_text.proofs.formatting.format_pieces.Given as goal

abbrev pub invariant-pieces : goal.invariant-pieces
invariant-pieces l = Read l.format l.rest (map plain_piece l.pieces.items) × shadow (Utf8 l.rest)

abbrev pub decreases-pieces : goal.decreases-pieces
decreases-pieces l = length l.rest
