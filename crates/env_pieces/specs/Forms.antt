-- The three forms in which pieces are shown.
use Rattle.std.specs.Prelude.{◌≡◌, ℕ, Bool, true, false, filter, zero, suc, ◌+◌, List, [], ◌∷◌, ◌++◌, ◌==◌, length, fold, Result, Ok, Err, codes, if◌then◌else◌}
use Rattle.env_text.specs.White.{words_of}
use Rattle.env_pieces.specs.declared.piece.Mark.TheVariants.{Begin, End}
use Rattle.env_pieces.specs.declared.piece.Piece.{Piece}
use Rattle.env_pieces.specs.declared.piece.Piece.TheVariants as piece
use Rattle.env_pieces.specs.declared.form.Mode.{Mode}
use Rattle.env_pieces.specs.declared.form.Mode.TheVariants as mode
use Rattle.env_pieces.specs.declared.form.FormFault.{FormFault}
use Rattle.env_pieces.specs.declared.form.FormFault.TheVariants.{Marks, Memory}

-- one more word, with a space in front of it where it isn't the first
abbrev pub put_word : List ℕ → List ℕ → List ℕ
put_word [] word = word
put_word (b ∷ front) word = (b ∷ front) ++ 32 ∷ word

-- what stands between white space, unless it is empty
abbrev pub put_part : List ℕ → List ℕ → List ℕ
put_part front part = if length part == 0 then front else put_word front part

-- each run of white space as one space, and none at the ends: the words of a text with one space between them
abbrev pub squeezed : List ℕ → List ℕ
squeezed text = fold put_word [] (words_of text)

abbrev pub text_in : Piece → List ℕ
text_in (piece.Text text) = text
text_in (piece.Mark mark) = []

-- the texts alone
abbrev pub texts_of : List Piece → List ℕ
texts_of [] = []
texts_of (p ∷ pieces) = text_in p ++ texts_of pieces

abbrev pub raw_piece : Piece → List ℕ
raw_piece (piece.Text text) = text
raw_piece (piece.Mark Begin) = codes "$("
raw_piece (piece.Mark End) = codes "$)"

-- all as it stands
abbrev pub raw_of : List Piece → List ℕ
raw_of [] = []
raw_of (p ∷ pieces) = raw_piece p ++ raw_of pieces

abbrev pub in_front : List ℕ → Result (List ℕ) ℕ → Result (List ℕ) ℕ
in_front text (Ok rest) = Ok (text ++ rest)
in_front text (Err place) = Err place

-- what a text shows inside of a part: its line feeds where those are kept, and else nothing
abbrev pub feeds : Bool → List ℕ → List ℕ
feeds true text = filter (λ b. b == 10) text
feeds false text = []

-- what is left of pieces, the first of which has this number, where so many parts are open: a space for each outermost part
-- from its Begin to its End, and the texts outside. The number of the piece that is at fault is that of an End without a
-- Begin, or, where a part is open at the end, that of all pieces.
abbrev pub signed_part : Bool → ℕ → ℕ → List Piece → Result (List ℕ) ℕ
signed_part keep zero number [] = Ok []
signed_part keep (suc depth) number [] = Err number
signed_part keep zero number (piece.Text text ∷ pieces) = in_front text (signed_part keep zero (number + 1) pieces)
signed_part keep (suc depth) number (piece.Text text ∷ pieces) = in_front (feeds keep text) (signed_part keep (suc depth) (number + 1) pieces)
signed_part keep zero number (piece.Mark Begin ∷ pieces) = in_front (32 ∷ []) (signed_part keep (suc zero) (number + 1) pieces)
signed_part keep (suc depth) number (piece.Mark Begin ∷ pieces) = signed_part keep (suc (suc depth)) (number + 1) pieces
signed_part keep zero number (piece.Mark End ∷ pieces) = Err number
signed_part keep (suc depth) number (piece.Mark End ∷ pieces) = signed_part keep depth (number + 1) pieces

abbrev pub text_of : List Piece → List ℕ
text_of pieces = squeezed (texts_of pieces)

abbrev pub squeezed_part : Result (List ℕ) ℕ → Result (List ℕ) ℕ
squeezed_part (Ok text) = Ok (squeezed text)
squeezed_part (Err place) = Err place

abbrev pub signed_of : List Piece → Result (List ℕ) ℕ
signed_of pieces = squeezed_part (signed_part false 0 0 pieces)

-- the form of a mode, or the number of the piece at fault
abbrev pub shown : Mode → List Piece → Result (List ℕ) ℕ
shown mode.Text pieces = Ok (text_of pieces)
shown mode.Raw pieces = Ok (raw_of pieces)
shown mode.Signed pieces = signed_of pieces

abbrev pub FaultIs : {X : Type 0} → FormFault → Result X ℕ → Type 0
FaultIs (Marks number) r = r ≡ Err number
FaultIs Memory r = ⊥
