-- What the code holds, as the definitions say it.
use Rattle.py_text.specs.declared.formatting.Piece.{Piece}
use Rattle.py_text.specs.declared.formatting.Piece.TheVariants.{Literal, Percent, Any, Integer}
use Rattle.py_text.specs.Formatting.{FormatPiece, literal, percent, any_value, integer}

abbrev pub plain_piece : Piece → FormatPiece
plain_piece (Literal text) = literal text.now
plain_piece Percent = percent
plain_piece Any = any_value
plain_piece Integer = integer
