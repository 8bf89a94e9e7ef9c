-- The lines of pieces. SCons cuts the expansion of a command's line where it has a line feed.
use Rattle.std.specs.Prelude.{ℕ, ◌==◌, true, List, map, Result, Ok, Err}
use Rattle.std.specs.List.{slice_split}
use Rattle.env_pieces.specs.declared.piece.Piece.{Piece}
use Rattle.env_pieces.specs.declared.form.Mode.{Mode}
use Rattle.env_pieces.specs.declared.form.Mode.TheVariants as mode
use Rattle.env_pieces.specs.Forms.{squeezed, texts_of, raw_of, signed_part}

-- what the pieces show before white space is made one space
abbrev pub flat : Mode → List Piece → Result (List ℕ) ℕ
flat mode.Text pieces = Ok (texts_of pieces)
flat mode.Raw pieces = Ok (raw_of pieces)
flat mode.Signed pieces = signed_part true 0 0 pieces

abbrev pub line_form : Mode → List ℕ → List ℕ
line_form mode.Text line = squeezed line
line_form mode.Raw line = line
line_form mode.Signed line = squeezed line

abbrev pub lines_in : Mode → List ℕ → List (List ℕ)
lines_in m text = map (line_form m) (slice_split (λ b. b == 10) text)

abbrev pub lines_or_fault : Mode → Result (List ℕ) ℕ → Result (List (List ℕ)) ℕ
lines_or_fault m (Ok text) = Ok (lines_in m text)
lines_or_fault m (Err place) = Err place

-- the form of each line, or the number of the piece at fault
abbrev pub line_forms : Mode → List Piece → Result (List (List ℕ)) ℕ
line_forms m pieces = lines_or_fault m (flat m pieces)
