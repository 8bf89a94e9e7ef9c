-- The parts of an f-text: section 2.4.3 of the Python language reference, "Formatted string literals". Between its fields
-- an f-text is read as any other text, but for its braces.
use Rattle.std.specs.Prelude.{◌≡◌, ℕ, ◌+◌, Bool, true, false, ◌&&◌, ◌||◌, ◌==◌, List, [], ◌∷◌, ◌++◌, if◌then◌else◌}
use Rattle.py_lex.specs.declared.piece.Style.{Style}
use Rattle.py_lex.specs.declared.piece.Chars.{Chars}
use Rattle.py_lex.specs.declared.piece.Chars.TheVariants.{Byte}
use Rattle.py_lex.specs.declared.piece.Piece.{Piece}
use Rattle.py_lex.specs.declared.piece.Piece.TheVariants.{Closes, Unclosed, BadEscape, NotUtf8, Stands, EndsLine}
use Rattle.py_lex.specs.declared.part.PartPiece.{PartPiece}
use Rattle.py_lex.specs.declared.part.PartPiece.TheVariants.{Opens, Lone, Plain}
use Rattle.py_lex.specs.declared.fault.LexKind.{LexKind}
use Rattle.py_lex.specs.declared.fault.LexKind.TheVariants as kinds
use Rattle.py_lex.specs.Texts.{piece_at, bytes_of}

-- two opening braces stand for one; one alone opens a field
abbrev pub opening_brace : List ℕ → PartPiece × List ℕ
opening_brace [] = (Opens, [])
opening_brace (b ∷ rest) = if b == 123 then (Plain (Stands (Byte 123)), rest) else (Opens, b ∷ rest)

-- two closing braces stand for one; one alone closes no field
abbrev pub closing_brace : List ℕ → List ℕ → PartPiece × List ℕ
closing_brace bytes [] = (Lone, bytes)
closing_brace bytes (b ∷ rest) = if b == 125 then (Plain (Stands (Byte 125)), rest) else (Lone, bytes)

abbrev pub begins_with_brace : List ℕ → Bool
begins_with_brace [] = false
begins_with_brace (b ∷ rest) = b == 123 || b == 125

abbrev pub plain_piece : Piece × List ℕ → PartPiece × List ℕ
plain_piece p = (Plain p.0, p.1)

-- the piece of an f-text in front, and what follows it; no backslash keeps a brace, also in a raw one
abbrev pub part_piece_at : Style → List ℕ → PartPiece × List ℕ
part_piece_at style [] = (Plain Unclosed, [])
part_piece_at style (b ∷ rest) =
    if b == 123 then opening_brace rest
    else (if b == 125 then closing_brace (b ∷ rest) rest
    else (if b == 92 && (style.raw && begins_with_brace rest) then (Plain (Stands (Byte 92)), rest)
    else plain_piece (piece_at style (b ∷ rest))))

-- what reading a part gives: whether a field stands behind it, its bytes, the lines that end in it and what follows the
-- brace or the quotes behind it; or no end; or a fault and the lines that end in front of it
pub data PartSpelling : Type 0 where
  ends : Bool → List ℕ → ℕ → List ℕ → PartSpelling
  unclosed : PartSpelling
  refused : LexKind → ℕ → PartSpelling

-- the same with these bytes and lines in front
abbrev pub part_behind : List ℕ → ℕ → PartSpelling → PartSpelling
part_behind front lines (ends field value more rest) = ends field (front ++ value) (lines + more) rest
part_behind front lines unclosed = unclosed
part_behind front lines (refused kind more) = refused kind (lines + more)

-- a part is read piece by piece
pub data Parts (style : Style) : List ℕ → PartSpelling → Type 0 where
  opens_field : {bytes : List ℕ} (rest : List ℕ) → part_piece_at style bytes ≡ (Opens, rest) → Parts style bytes (ends true [] 0 rest)
  closes_text : {bytes : List ℕ} (rest : List ℕ) → part_piece_at style bytes ≡ (Plain Closes, rest) → Parts style bytes (ends false [] 0 rest)
  part_has_no_end : {bytes : List ℕ} (rest : List ℕ) → part_piece_at style bytes ≡ (Plain Unclosed, rest) → Parts style bytes unclosed
  has_lone_brace : {bytes : List ℕ} (rest : List ℕ) → part_piece_at style bytes ≡ (Lone, rest) → Parts style bytes (refused kinds.BadField 0)
  part_has_bad_escape : {bytes : List ℕ} (rest : List ℕ) → part_piece_at style bytes ≡ (Plain BadEscape, rest) → Parts style bytes (refused kinds.BadEscape 0)
  part_is_not_utf8 : {bytes : List ℕ} (rest : List ℕ) → part_piece_at style bytes ≡ (Plain NotUtf8, rest) → Parts style bytes (refused kinds.NotUtf8 0)
  part_stands : {bytes : List ℕ} {s : PartSpelling} (c : Chars) (rest : List ℕ) → part_piece_at style bytes ≡ (Plain (Stands c), rest) → Parts style rest s → Parts style bytes (part_behind (bytes_of c) 0 s)
  part_ends_line : {bytes : List ℕ} {s : PartSpelling} (c : Chars) (rest : List ℕ) → part_piece_at style bytes ≡ (Plain (EndsLine c), rest) → Parts style rest s → Parts style bytes (part_behind (bytes_of c) 1 s)
