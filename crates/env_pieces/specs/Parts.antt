-- Texts and marks in their order, texts beside each other too, as the sheet that they make.
use Rattle.std.specs.Prelude.{◌≡◌, ◌≤◌, ℕ, ◌+◌, Bool, List, [], ◌∷◌, ◌++◌, length}
use Rattle.std.specs.List.{list_all}
use Rattle.scons_base.specs.declared.limits.TheConstants.{SUBST_LIMIT}
use Rattle.env_text.specs.Bytes.{is_white}
use Rattle.env_pieces.specs.declared.piece.Piece.{Piece}
use Rattle.env_pieces.specs.declared.piece.Piece.TheVariants as piece
use Rattle.env_pieces.specs.Pieces.{Sheet, text_piece}
use Rattle.env_pieces.specs.Forms.{texts_of}

-- the pieces up to the last mark, where such a text stands in front
abbrev pub done_of : List ℕ → List Piece → List Piece
done_of text [] = []
done_of text (piece.Text more ∷ parts) = done_of (text ++ more) parts
done_of text (piece.Mark mark ∷ parts) = text_piece text ++ piece.Mark mark ∷ done_of [] parts

-- and the text behind it
abbrev pub text_behind : List ℕ → List Piece → List ℕ
text_behind text [] = text
text_behind text (piece.Text more ∷ parts) = text_behind (text ++ more) parts
text_behind text (piece.Mark mark ∷ parts) = text_behind [] parts

abbrev pub bytes_in : Piece → ℕ
bytes_in (piece.Text text) = length text
bytes_in (piece.Mark mark) = 2

-- how many bytes they have
abbrev pub bytes_of : List Piece → ℕ
bytes_of [] = 0
bytes_of (p ∷ parts) = bytes_in p + bytes_of parts

-- with a text behind them
abbrev pub sheet_of : List Piece → List ℕ → ℕ → Sheet
sheet_of parts text room = record { done = done_of [] parts; text = text_behind [] parts ++ text; room = room }

-- what is counted of them, and whether their texts are white space alone
abbrev pub AreCounted : List Piece → List ℕ → ℕ → ℕ → Bool → Type 0
AreCounted parts text len room white =
    (len ≡ bytes_of parts + length text) × (len + room ≤ SUBST_LIMIT) × (white ≡ list_all is_white (texts_of parts ++ text))
