-- Numbers of a command line: decimal digits without a sign or a leading zero.
use Rattle.std.specs.Prelude.{ℕ, Bool, List, [], ◌∷◌, ◌+◌, ◌-◌, ◌*◌, ◌&&◌, Option, Some, None, nat_le, if◌then◌else◌}
use Rattle.std.specs.Option.{option_and_then}

abbrev is_digit : ℕ → Bool
is_digit b = nat_le 48 b && nat_le b 57

-- a further digit behind a number, where it doesn't pass the limit
abbrev pub with_digit : ℕ → ℕ → ℕ → Option ℕ
with_digit limit n b = if is_digit b && nat_le (n * 10 + (b - 48)) limit then Some (n * 10 + (b - 48)) else None

-- further digits behind a number
abbrev pub digits_up_to : ℕ → ℕ → List ℕ → Option ℕ
digits_up_to limit n [] = Some n
digits_up_to limit n (b ∷ bs) = option_and_then (λ m. digits_up_to limit m bs) (with_digit limit n b)

-- the number that a text spells, if it is from 1 to the limit
abbrev pub number_up_to : ℕ → List ℕ → Option ℕ
number_up_to limit [] = None
number_up_to limit (b ∷ bs) = if nat_le b 48 then None else digits_up_to limit 0 (b ∷ bs)
