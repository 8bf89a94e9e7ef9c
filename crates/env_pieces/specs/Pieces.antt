-- What reading a text gives: texts and marks. The chapter on substitution of scons(1) tells what marks are for; how pieces
-- are counted is this project's own.
use Rattle.std.specs.Prelude.{ℕ, List, [], ◌∷◌, ◌++◌, ◌-◌, nat_le, length, Option, Some, None, option_and_then, if◌then◌else◌}
use Rattle.env_pieces.specs.declared.piece.Mark.{Mark}
use Rattle.env_pieces.specs.declared.piece.Piece.{Piece}
use Rattle.env_pieces.specs.declared.piece.Piece.TheVariants as piece

-- what is read so far
pub record Sheet : Type 0 where
  -- the pieces up to the last mark
  pub done : List Piece
  -- the text behind it
  pub text : List ℕ
  -- how many bytes may still come
  pub room : ℕ

-- an empty text is no piece
abbrev pub text_piece : List ℕ → List Piece
text_piece [] = []
text_piece (b ∷ text) = piece.Text (b ∷ text) ∷ []

abbrev pub pieces_of : Sheet → List Piece
pieces_of s = s.done ++ text_piece s.text

-- nothing is read yet
abbrev pub blank : ℕ → Sheet
blank room = record { done = []; text = []; room = room }

-- a text behind what was read: with the text in front of it it is one piece. There is no such sheet where it is too long.
abbrev pub with_text : List ℕ → Sheet → Option Sheet
with_text text s =
    if nat_le (length text) s.room
    then Some (record { done = s.done; text = s.text ++ text; room = s.room - length text }) else None

-- a mark behind what was read counts as two bytes
abbrev pub with_mark : Mark → Sheet → Option Sheet
with_mark mark s =
    if nat_le 2 s.room
    then Some (record { done = pieces_of s ++ piece.Mark mark ∷ []; text = []; room = s.room - 2 }) else None

abbrev pub with_piece : Piece → Sheet → Option Sheet
with_piece (piece.Text text) s = with_text text s
with_piece (piece.Mark mark) s = with_mark mark s

-- pieces behind what was read, one after another
abbrev pub with_pieces : List Piece → Sheet → Option Sheet
with_pieces [] s = Some s
with_pieces (p ∷ pieces) s = option_and_then (with_pieces pieces) (with_piece p s)
