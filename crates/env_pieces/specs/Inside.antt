-- What stands between a Begin and its End: the signed form doesn't tell it, as the chapter on substitution of scons(1) has it.
use Rattle.std.specs.Prelude.{◌≡◌, ℕ, zero, suc, Bool, true, false, List, [], ◌∷◌, ◌++◌, Option, None, Some, Ok}
use Rattle.env_pieces.specs.declared.piece.Mark.TheVariants.{Begin, End}
use Rattle.env_pieces.specs.declared.piece.Piece.{Piece}
use Rattle.env_pieces.specs.declared.piece.Piece.TheVariants as piece
use Rattle.env_pieces.specs.declared.form.Mode.TheVariants as mode
use Rattle.env_pieces.specs.Forms.{feeds, texts_of, shown}
use Rattle.env_pieces.specs.Lines.{line_forms}

-- how many parts are open behind these pieces, where so many are open before; none where one ends that isn't open
abbrev pub open_behind : ℕ → List Piece → Option ℕ
open_behind depth [] = Some depth
open_behind depth (piece.Text text ∷ pieces) = open_behind depth pieces
open_behind depth (piece.Mark Begin ∷ pieces) = open_behind (suc depth) pieces
open_behind zero (piece.Mark End ∷ pieces) = None
open_behind (suc depth) (piece.Mark End ∷ pieces) = open_behind depth pieces

-- each part that begins ends, and no other one
abbrev pub IsClosed : List Piece → Type 0
IsClosed pieces = open_behind 0 pieces ≡ Some 0

-- pieces with a part between marks
abbrev pub with_part : List Piece → List Piece → List Piece → List Piece
with_part before inside after = before ++ piece.Mark Begin ∷ (inside ++ piece.Mark End ∷ after)

-- pieces that differ in one part between marks alone; where line feeds are kept, it has the same line feeds
pub record DifferInside (keep : Bool) (pieces other : List Piece) : Type 0 where
  pub before : List Piece
  pub inside : List Piece
  pub inside_other : List Piece
  pub after : List Piece
  pub is : pieces ≡ with_part before inside after
  pub is_other : other ≡ with_part before inside_other after
  pub closed : IsClosed inside
  pub closed_other : IsClosed inside_other
  pub same_feeds : feeds keep (texts_of inside) ≡ feeds keep (texts_of inside_other)

-- other pieces with the same signed form
abbrev pub HidesInside : List Piece → List ℕ → Type 0
HidesInside pieces text = (other : List Piece) → DifferInside false pieces other → shown mode.Signed other ≡ Ok text

-- and with the same signed lines
abbrev pub LinesHideInside : List Piece → List (List ℕ) → Type 0
LinesHideInside pieces lines = (other : List Piece) → DifferInside true pieces other → line_forms mode.Signed other ≡ Ok lines
