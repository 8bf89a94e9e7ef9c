-- Bytes, runs of bytes and line ends: sections 2.1.2, 2.1.3, 2.1.9 and 2.3 of the Python language reference.
-- Here and in the other files a byte stands by its number: 9 is a tab, 10 a line feed, 13 a carriage return, 32 a space,
-- 34 `"`, 35 `#`, 39 `'`, 46 `.`, 92 a backslash and 95 `_`.
use Rattle.std.specs.Prelude.{ℕ, Bool, not, ◌||◌, ◌==◌, List, [], ◌∷◌, Option, None, Some, if◌then◌else◌}
use Rattle.py_lex.specs.declared.bytes.TheConstants.{NO_TEXT}

-- a space or a tab
abbrev pub is_blank : ℕ → Bool
is_blank b = b == 32 || b == 9

-- a comment goes on to a line feed, or to where the script is no UTF-8 any more
abbrev pub is_comment_byte : ℕ → Bool
is_comment_byte b = not (b == 10 || b == NO_TEXT)

abbrev pub after_feed : List ℕ → Option (List ℕ)
after_feed [] = None
after_feed (b ∷ rest) = if b == 10 then Some rest else None

-- what follows a line end, which is a line feed, or a carriage return and a line feed
abbrev pub after_line_end : List ℕ → Option (List ℕ)
after_line_end [] = None
after_line_end (b ∷ rest) = if b == 10 then Some rest else (if b == 13 then after_feed rest else None)
