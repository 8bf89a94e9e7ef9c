-- Texts: section 2.4.1 of the Python language reference, "String and Bytes literals", without the escapes of digits,
-- `u`, `U` and `N`.
use Rattle.std.specs.Prelude.{◌≡◌, ℕ, ◌+◌, ◌*◌, Bool, true, false, ◌&&◌, ◌||◌, ◌==◌, List, [], ◌∷◌, ◌++◌, Option, None, Some, encode_utf8, if◌then◌else◌}
use Rattle.std.specs.Char.{is_digit, digit_value, is_ascii_digit}
use Rattle.py_lex.specs.declared.piece.Style.{Style}
use Rattle.py_lex.specs.declared.piece.Chars.{Chars}
use Rattle.py_lex.specs.declared.piece.Chars.TheVariants.{Nothing, Byte, Kept, Char}
use Rattle.py_lex.specs.declared.piece.Piece.{Piece}
use Rattle.py_lex.specs.declared.piece.Piece.TheVariants.{Closes, Unclosed, BadEscape, NotUtf8, Stands, EndsLine}
use Rattle.py_lex.specs.declared.bytes.TheConstants.{NO_TEXT}
use Rattle.py_lex.specs.declared.fault.LexKind.{LexKind}
use Rattle.py_lex.specs.declared.fault.LexKind.TheVariants as kinds
use Rattle.py_lex.specs.Bytes.{after_line_end}

-- a quote closes a text, three close a long one
abbrev pub closing : Style → List ℕ → Piece × List ℕ
closing style [] = if style.long then (Stands (Byte style.quote), []) else (Closes, [])
closing style (a ∷ []) = if style.long then (Stands (Byte style.quote), a ∷ []) else (Closes, a ∷ [])
closing style (a ∷ b ∷ rest) =
    if style.long then
    (if a == style.quote && b == style.quote then (Closes, rest) else (Stands (Byte style.quote), a ∷ b ∷ rest))
    else (Closes, a ∷ b ∷ rest)

abbrev pub kept_byte : List ℕ → Piece × List ℕ
kept_byte [] = (Stands (Byte 92), [])
kept_byte (b ∷ rest) = if b == NO_TEXT then (Stands (Byte 92), b ∷ rest) else (Stands (Kept b), rest)

abbrev pub kept_line : List ℕ → Option (List ℕ) → Piece × List ℕ
kept_line bytes None = kept_byte bytes
kept_line bytes (Some rest) = (EndsLine (Kept 10), rest)

-- in a raw text a backslash stays, and so does what follows it, be it a quote or a line end
abbrev pub kept : List ℕ → Piece × List ℕ
kept bytes = kept_line bytes (after_line_end bytes)

abbrev pub simple_escape : ℕ → Option ℕ
simple_escape e =
    if e == 92 then Some 92
    else (if e == 39 then Some 39
    else (if e == 34 then Some 34
    else (if e == 110 then Some 10
    else (if e == 114 then Some 13
    else (if e == 116 then Some 9
    else (if e == 97 then Some 7
    else (if e == 98 then Some 8
    else (if e == 102 then Some 12
    else (if e == 118 then Some 11 else None)))))))))

abbrev pub hex_digit : ℕ → Option ℕ
hex_digit b = if is_digit b 16 then Some (digit_value b) else None

abbrev pub hex_char : Option ℕ → Option ℕ → List ℕ → List ℕ → Piece × List ℕ
hex_char (Some high) (Some low) bytes rest = (Stands (Char (high * 16 + low)), rest)
hex_char (Some high) None bytes rest = (BadEscape, bytes)
hex_char None low bytes rest = (BadEscape, bytes)

-- `\x` takes two hexadecimal digits
abbrev pub hex_escape : List ℕ → Piece × List ℕ
hex_escape [] = (BadEscape, [])
hex_escape (a ∷ []) = (BadEscape, a ∷ [])
hex_escape (a ∷ b ∷ rest) = hex_char (hex_digit a) (hex_digit b) (a ∷ b ∷ rest) rest

-- a backslash before any other byte stays
abbrev pub simple_or : List ℕ → List ℕ → Option ℕ → Piece × List ℕ
simple_or bytes rest None = (Stands (Byte 92), bytes)
simple_or bytes rest (Some c) = (Stands (Byte c), rest)

abbrev pub escape_byte : List ℕ → Piece × List ℕ
escape_byte [] = (Stands (Byte 92), [])
escape_byte (e ∷ rest) =
    if e == 120 then hex_escape rest
    else (if is_ascii_digit e || (e == 117 || (e == 85 || e == 78)) then (BadEscape, e ∷ rest)
    else simple_or (e ∷ rest) rest (simple_escape e))

abbrev pub escape_line : List ℕ → Option (List ℕ) → Piece × List ℕ
escape_line bytes None = escape_byte bytes
escape_line bytes (Some rest) = (EndsLine Nothing, rest)

-- a backslash and a line end vanish
abbrev pub escape : List ℕ → Piece × List ℕ
escape bytes = escape_line bytes (after_line_end bytes)

-- a line end in a long text is the character 10, however it is written; a short text doesn't go over lines
abbrev pub plain : Style → ℕ → List ℕ → Option (List ℕ) → Piece × List ℕ
plain style b rest None = (Stands (Byte b), rest)
plain style b rest (Some next) = if style.long then (EndsLine (Byte 10), next) else (Unclosed, b ∷ rest)

-- the piece of a text in front, and what follows it
abbrev pub piece_at : Style → List ℕ → Piece × List ℕ
piece_at style [] = (Unclosed, [])
piece_at style (b ∷ rest) =
    if b == style.quote then closing style rest
    else (if b == 92 then (if style.raw then kept rest else escape rest)
    else (if b == NO_TEXT then (NotUtf8, b ∷ rest)
    else plain style b rest (after_line_end (b ∷ rest))))

-- the bytes of what a piece stands for
abbrev pub bytes_of : Chars → List ℕ
bytes_of Nothing = []
bytes_of (Byte b) = b ∷ []
bytes_of (Kept b) = 92 ∷ b ∷ []
bytes_of (Char n) = encode_utf8 n

-- what reading a text gives: its bytes, the lines that end in it and what follows its quotes; or no end; or a fault and
-- the lines that end in front of it
pub data Spelling : Type 0 where
  closed : List ℕ → ℕ → List ℕ → Spelling
  unclosed : Spelling
  refused : LexKind → ℕ → Spelling

-- the same with these bytes and lines in front
abbrev pub behind : List ℕ → ℕ → Spelling → Spelling
behind front lines (closed value more rest) = closed (front ++ value) (lines + more) rest
behind front lines unclosed = unclosed
behind front lines (refused kind more) = refused kind (lines + more)

-- a text behind its opening quotes is read piece by piece
pub data Spells (style : Style) : List ℕ → Spelling → Type 0 where
  closes : {bytes : List ℕ} (rest : List ℕ) → piece_at style bytes ≡ (Closes, rest) → Spells style bytes (closed [] 0 rest)
  has_no_end : {bytes : List ℕ} (rest : List ℕ) → piece_at style bytes ≡ (Unclosed, rest) → Spells style bytes unclosed
  has_bad_escape : {bytes : List ℕ} (rest : List ℕ) → piece_at style bytes ≡ (BadEscape, rest) → Spells style bytes (refused kinds.BadEscape 0)
  is_not_utf8 : {bytes : List ℕ} (rest : List ℕ) → piece_at style bytes ≡ (NotUtf8, rest) → Spells style bytes (refused kinds.NotUtf8 0)
  stands : {bytes : List ℕ} {s : Spelling} (c : Chars) (rest : List ℕ) → piece_at style bytes ≡ (Stands c, rest) → Spells style rest s → Spells style bytes (behind (bytes_of c) 0 s)
  ends_line : {bytes : List ℕ} {s : Spelling} (c : Chars) (rest : List ℕ) → piece_at style bytes ≡ (EndsLine c, rest) → Spells style rest s → Spells style bytes (behind (bytes_of c) 1 s)

-- three quotes open a long text; what follows the opening quotes
abbrev pub opening : Bool → ℕ → List ℕ → Style × List ℕ
opening raw q [] = (record { quote = q; long = false; raw = raw }, [])
opening raw q (a ∷ []) = (record { quote = q; long = false; raw = raw }, a ∷ [])
opening raw q (a ∷ b ∷ rest) =
    if a == q && b == q then (record { quote = q; long = true; raw = raw }, rest)
    else (record { quote = q; long = false; raw = raw }, a ∷ b ∷ rest)
