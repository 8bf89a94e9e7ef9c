-- White space: `str.isspace` of the Python library reference.
use Rattle.std.specs.Prelude.{ℕ, Bool, ◌||◌, ◌&&◌, nat_le}
use Rattle.std.specs.Char.{is_whitespace}

-- Unicode's white space, and the four separators of ASCII, 28 to 31
abbrev pub is_white : ℕ → Bool
is_white c = is_whitespace c || nat_le 28 c && nat_le c 31
