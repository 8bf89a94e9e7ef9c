-- Names: section 2.3 ("Identifiers and keywords") of the Python language reference, in ASCII alone.
use Rattle.std.specs.Prelude.{ℕ, Bool, false, ◌||◌, ◌&&◌, ◌==◌, List, [], ◌∷◌}
use Rattle.std.specs.List.{list_all}
use Rattle.std.specs.Char.{is_ascii_digit, is_ascii_alphabetic}

abbrev pub is_letter : ℕ → Bool
is_letter b = b == 95 || is_ascii_alphabetic b

abbrev pub is_part : ℕ → Bool
is_part b = is_letter b || is_ascii_digit b

-- letters, digits and `_`, no digit in front
abbrev pub is_identifier : List ℕ → Bool
is_identifier [] = false
is_identifier (b ∷ bytes) = is_letter b && list_all is_part bytes
