-- How much of a script is taken, so that lines and brackets can be counted and reading comes to an end.
use Rattle.std.specs.Prelude.{ℕ, ◌+◌, ◌*◌, ◌<◌, ◌≤◌, ◌^◌, List, length}
use Rattle.py_token.specs.declared.mark.Mark.{Mark}
use Rattle.py_token.specs.Marks.{mark_text}
use Rattle.py_lex.specs.declared.piece.Piece.{Piece}
use Rattle.py_lex.specs.declared.piece.Piece.TheVariants as pieces
use Rattle.py_lex.specs.declared.part.PartPiece.{PartPiece}
use Rattle.py_lex.specs.declared.part.PartPiece.TheVariants as parts
use Rattle.py_lex.specs.declared.part.Part.{Part}
use Rattle.py_lex.specs.declared.part.Part.TheVariants as part
use Rattle.py_lex.specs.declared.reader.Place.{Place}
use Rattle.py_lex.specs.declared.reader.Place.TheVariants.{LineStart, Inside}
use Rattle.py_lex.specs.declared.reader.Mode.{Mode}
use Rattle.py_lex.specs.declared.reader.Mode.TheVariants.{Line, Part as InPart, Field}
use Rattle.py_lex.specs.declared.text.Spelt.{Spelt}
use Rattle.py_lex.specs.declared.text.Spelt.TheVariants.{Closed, Unclosed, Refused}
use Rattle.py_lex.specs.declared.token.Turn.{Turn}
use Rattle.py_lex.specs.declared.token.Turn.TheVariants.{Takes, Begins, Refuses}
use Rattle.py_lex.specs.Steps.{State, Move, goes, ends, stops}

-- a mark takes a byte or two
pub record StandsAt (mark : Mark) (bytes : List ℕ) : Type 0 where
  pub some : 0 < length (mark_text mark)
  pub fits : length (mark_text mark) ≤ length bytes

-- a piece that belongs to a text takes a byte or more
abbrev pub IsTaken : Piece → Type 0
IsTaken pieces.Closes = Unit {0}
IsTaken (pieces.Stands c) = Unit {0}
IsTaken (pieces.EndsLine c) = Unit {0}
IsTaken pieces.Unclosed = ⊥
IsTaken pieces.BadEscape = ⊥
IsTaken pieces.NotUtf8 = ⊥

-- a text takes a byte for each line that ends in it, and one for its quote
abbrev pub FitsIn : List ℕ → Spelt → Type 0
FitsIn bytes (Closed value lines rest) = lines + length rest.now < length bytes
FitsIn bytes Unclosed = Unit {0}
FitsIn bytes (Refused kind lines) = lines ≤ length bytes

-- a piece that belongs to an f-text takes a byte or more
abbrev pub IsPartTaken : PartPiece → Type 0
IsPartTaken parts.Opens = Unit {0}
IsPartTaken parts.Lone = ⊥
IsPartTaken (parts.Plain piece) = IsTaken piece

-- a part takes a byte for each line that ends in it, and one for what stands behind it
abbrev pub FitsInPart : List ℕ → Part → Type 0
FitsInPart bytes (part.Ends field value lines rest) = lines + length rest.now < length bytes
FitsInPart bytes part.Unclosed = Unit {0}
FitsInPart bytes (part.Refused kind lines) = lines ≤ length bytes

-- a token takes a byte at least, one for each line that ends in it, and one for each bracket
pub record FitsToken (depth : ℕ) (bytes : List ℕ) (lines after : ℕ) (rest : List ℕ) : Type 0 where
  pub shorter : length rest < length bytes
  pub lines_fit : lines + length rest ≤ length bytes
  pub depth_fits : after + length rest ≤ depth + length bytes

abbrev pub FitsTurn : ℕ → List ℕ → Turn → Type 0
FitsTurn depth bytes (Takes kind lines after rest) = FitsToken depth bytes lines after rest.now
FitsTurn depth bytes (Begins style rest) = (length rest.now < length bytes) × (style.quote < 128)
FitsTurn depth bytes (Refuses kind lines) = lines ≤ length bytes

-- the same behind a byte that belongs to the token
pub record FitsBehindByte (depth : ℕ) (bytes : List ℕ) (lines after : ℕ) (rest : List ℕ) : Type 0 where
  pub lines_fit : lines + length rest ≤ length bytes
  pub depth_fits : after ≤ depth

abbrev pub FitsBehind : ℕ → List ℕ → Turn → Type 0
FitsBehind depth bytes (Takes kind lines after rest) = FitsBehindByte depth bytes lines after rest.now
FitsBehind depth bytes (Begins style rest) = (length rest.now ≤ length bytes) × (style.quote < 128)
FitsBehind depth bytes (Refuses kind lines) = lines ≤ length bytes

abbrev pub depth_of : Place → ℕ
depth_of LineStart = 0
depth_of (Inside depth) = depth

abbrev pub rank_of : Place → ℕ
rank_of LineStart = 1
rank_of (Inside depth) = 0

-- the quote of the f-text that is open, if there is one
abbrev pub quote_of : Mode → ℕ
quote_of Line = 0
quote_of (InPart text) = text.style.quote
quote_of (Field text inner) = text.style.quote

-- the brackets that are open in a field
abbrev pub inner_of : Mode → ℕ
inner_of Line = 0
inner_of (InPart text) = 0
inner_of (Field text inner) = inner

-- lines and brackets can be counted
pub record Fits (s : State) : Type 0 where
  pub lines : s.line + length s.rest < 2 ^ 31
  pub brackets : depth_of s.place + length s.rest < 2 ^ 31
  pub inner : inner_of s.mode + length s.rest < 2 ^ 31
  pub quote : quote_of s.mode < 128

-- a step takes a byte, or begins a line's tokens
pub record FitsNext (s t : State) : Type 0 where
  pub fits : Fits t
  pub falls : 2 * length t.rest + rank_of t.place < 2 * length s.rest + rank_of s.place

abbrev pub FitsStep : State → Move → Type 0
FitsStep s (goes t) = FitsNext s t
FitsStep s (ends tokens) = Unit {0}
FitsStep s (stops line kind) = Unit {0}
