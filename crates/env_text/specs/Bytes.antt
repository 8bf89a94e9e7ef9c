-- Bytes, and the names of variables. Here and in the other files a byte stands by its number: 36 is `$`, 40 `(`, 41 `)`,
-- 44 `,`, 45 `-`, 46 `.`, 48 `0`, 58 `:`, 91 `[`, 93 `]`, 95 `_`, 123 `{` and 125 `}`.
use Rattle.std.specs.Prelude.{ℕ, ◌+◌, Bool, false, not, ◌||◌, ◌&&◌, ◌==◌, nat_le, List, [], ◌∷◌, if◌then◌else◌}
use Rattle.std.specs.Char.{is_ascii_alphabetic}
use Rattle.scons_base.specs.Runs.{is_name_byte}

-- white space: tab, line feed, vertical tab, form feed, carriage return and space
abbrev pub is_white : ℕ → Bool
is_white b = b == 32 || nat_le 9 b && nat_le b 13

-- what a name begins with; it goes on with name bytes
abbrev pub is_name_first : ℕ → Bool
is_name_first b = is_ascii_alphabetic b || b == 95

abbrev pub is_plain : ℕ → Bool
is_plain b = not (b == 36)

abbrev pub begins_name : List ℕ → Bool
begins_name [] = false
begins_name (b ∷ bytes) = is_name_first b

-- a name without braces goes on with a letter, a digit or `_`, and with a `.` where a letter or `_` follows it
abbrev pub goes_on : ℕ → List ℕ → Bool
goes_on b bytes = is_name_byte b || b == 46 && begins_name bytes

-- how many bytes of such a name are in front
abbrev pub dotted_len : List ℕ → ℕ
dotted_len [] = 0
dotted_len (b ∷ bytes) = if goes_on b bytes then 1 + dotted_len bytes else 0
