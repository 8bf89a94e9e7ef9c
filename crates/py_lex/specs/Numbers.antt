-- Integer literals: section 2.4.5 of the Python language reference, without underscores and up to 2^63 - 1.
use Rattle.std.specs.Prelude.{ℕ, ◌+◌, ◌*◌, Bool, true, false, not, ◌&&◌, ◌==◌, nat_le, List, [], ◌∷◌, Option, None, Some, if◌then◌else◌}
use Rattle.std.specs.List.{list_all}
use Rattle.std.specs.Char.{is_digit, digit_value}
use Rattle.std.specs.Str.Parse.{digits_value}
use Rattle.py_lex.specs.declared.number.TheConstants.{LARGEST}

abbrev is_empty : List ℕ → Bool
is_empty [] = true
is_empty (d ∷ ds) = false

-- the value of one digit or more, if it isn't too large
abbrev pub value_in : ℕ → List ℕ → Option ℕ
value_in base ds =
    if not (is_empty ds) && (list_all (λ d. is_digit d base) ds && nat_le (digits_value base ds) LARGEST)
    then Some (digits_value base ds) else None

-- one digit behind those that are read
abbrev pub with_digit : ℕ → ℕ → ℕ → Option ℕ
with_digit value base d =
    if is_digit d base && nat_le (value * base + digit_value d) LARGEST then Some (value * base + digit_value d) else None

-- `0x`, `0o`, `0b` and digits of that base; another digit or letter behind a leading zero makes no literal
abbrev behind_zero : ℕ → List ℕ → Option ℕ
behind_zero m ds =
    if m == 120 then value_in 16 ds
    else (if m == 111 then value_in 8 ds
    else (if m == 98 then value_in 2 ds else None))

-- what a literal stands for: the digit in front with all letters, digits and underscores behind it
abbrev pub number_of : List ℕ → Option ℕ
number_of [] = None
number_of (d ∷ []) = value_in 10 (d ∷ [])
number_of (d ∷ m ∷ ds) = if d == 48 then behind_zero m ds else value_in 10 (d ∷ m ∷ ds)
