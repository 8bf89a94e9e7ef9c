-- What one piece does to what was shown.
use Rattle.std.specs.Prelude.{◌≡◌, ℕ, Bool, ◌+◌, List, ◌∷◌, Option, None, Some, Err}
use Rattle.env_pieces.specs.declared.piece.Piece.{Piece}
use Rattle.env_pieces.specs.Forms.{in_front, signed_part}

-- behind this piece `after` stands in place of `out`, whatever follows, and so many parts are open; or none can be
abbrev pub Goes : Bool → List ℕ → ℕ → Piece → List ℕ → Option ℕ → Type 0
Goes keep out depth p after None = (number : ℕ) (rest : List Piece) → signed_part keep depth number (p ∷ rest) ≡ Err number
Goes keep out depth p after (Some d) = (number : ℕ) (rest : List Piece) → in_front out (signed_part keep depth number (p ∷ rest)) ≡ in_front after (signed_part keep d (number + 1) rest)
