-- How many files a write reads.
use Rattle.std.specs.Prelude.{ℕ, List, [], ◌∷◌, unwrap_or}
use Rattle.world_api.specs.Writing.{number_in}

-- what the first of several signed texts says
abbrev pub named_by : List (List ℕ) → ℕ
named_by [] = 0
named_by (text ∷ []) = 0
named_by (count ∷ between ∷ texts) = unwrap_or (number_in count) 0
