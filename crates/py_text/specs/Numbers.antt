-- Numbers read from texts and written as texts: `int` and `str` among the built-in functions of the Python library reference.
use Rattle.std.specs.Prelude.{ℕ, Bool, not, ◌&&◌, ◌==◌, ◌^◌, nat_lt, List, length, ℤ, pos, negsuc, Result, Ok, Err, if◌then◌else◌}
use Rattle.std.specs.List.{list_all}
use Rattle.std.specs.Char.{is_ascii_digit}
use Rattle.std.specs.Str.Parse.{without_leading_sign, signed_digits_value}
use Rattle.std.specs.Fmt.{signed_decimal}
use Rattle.py_text.specs.declared.fault.IntFault.{IntFault}
use Rattle.py_text.specs.declared.fault.IntFault.TheVariants.{BadText, Overflow}

-- decimal digits, at least one, behind at most one sign, `+` or `-`
abbrev pub is_decimal : List ℕ → Bool
is_decimal text = not (length (without_leading_sign text) == 0) && list_all is_ascii_digit (without_leading_sign text)

-- a number that has 64 bits: from -2^63 to 2^63 - 1
abbrev pub in_64_bits : ℤ → Result ℤ IntFault
in_64_bits (pos n) = if nat_lt n (2 ^ 63) then Ok (pos n) else Err Overflow
in_64_bits (negsuc n) = if nat_lt n (2 ^ 63) then Ok (negsuc n) else Err Overflow

-- the number that a text spells
abbrev pub int_of : List ℕ → Result ℤ IntFault
int_of text = if is_decimal text then in_64_bits (signed_digits_value 10 text) else Err BadText

-- the digits of a number, behind `-` where it is less than 0
abbrev pub decimals : ℤ → List ℕ
decimals n = signed_decimal n
