-- The pieces of a format: "printf-style String Formatting" in the Python library reference, cut down to `%s`, `%d` and `%%`.
-- 37 is `%`, 100 `d` and 115 `s`.
use Rattle.std.specs.Prelude.{ℕ, Bool, List, [], ◌∷◌, ◌==◌, ◌≡◌, ⊤, Option, None, Some, option_map, if◌then◌else◌}

-- a run of characters without `%`, and what `%%`, `%s` and `%d` stand for
pub data FormatPiece : Type 0 where
  literal : List ℕ → FormatPiece
  percent : FormatPiece
  any_value : FormatPiece
  integer : FormatPiece

abbrev pub is_percent : ℕ → Bool
is_percent b = b == 37

-- pieces with a byte in front of them
abbrev pub onto_literal : ℕ → List FormatPiece → List FormatPiece
onto_literal b (literal bytes ∷ pieces) = literal (b ∷ bytes) ∷ pieces
onto_literal b pieces = literal (b ∷ []) ∷ pieces

-- what a letter behind a `%` stands for
abbrev pub piece_of : ℕ → Option FormatPiece
piece_of letter = if letter == 37 then Some percent else (if letter == 115 then Some any_value else (if letter == 100 then Some integer else None))

abbrev pub with_piece : Option FormatPiece → Option (List FormatPiece) → Option (List FormatPiece)
with_piece None pieces = None
with_piece (Some piece) pieces = option_map (λ behind. piece ∷ behind) pieces

-- the pieces of a format; none where a `%` stands at the end or before another letter
abbrev pub pieces_of : List ℕ → Option (List FormatPiece)
pieces_of [] = Some []
pieces_of (b ∷ []) = if is_percent b then None else Some (literal (b ∷ []) ∷ [])
pieces_of (b ∷ c ∷ rest) = if is_percent b then with_piece (piece_of c) (pieces_of rest) else option_map (onto_literal b) (pieces_of (c ∷ rest))

-- the piece of a run of characters, none where it is empty
abbrev pub literal_run : List ℕ → List FormatPiece
literal_run [] = []
literal_run (b ∷ bytes) = literal (b ∷ bytes) ∷ []

-- what follows a `%` begins with a letter that stands for a piece, or with none
abbrev pub StandsFor : List ℕ → FormatPiece → List ℕ → Type 0
StandsFor text piece rest = (letter : ℕ) × (text ≡ letter ∷ rest) × (piece_of letter ≡ Some piece)

abbrev pub HasNoLetter : List ℕ → Type 0
HasNoLetter [] = ⊤
HasNoLetter (letter ∷ rest) = piece_of letter ≡ None
