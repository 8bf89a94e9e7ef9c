-- How many pieces there are.
use Rattle.std.proofs.Common.{◌≤◌, ℕ, List, [], ◌∷◌, length, arith}
use Rattle.env_pieces.specs.Pieces.{text_piece}

pub piece_count : (text : List ℕ) → length (text_piece text) ≤ length text
piece_count [] = omega arith
piece_count (b ∷ text) = omega arith
