-- The parts of an include line, from its front on, as the regular expression `^[ \t]*#[ \t]*(?:include|import)[ \t]*(<|")([^>"]+)(>|")` has them.
use Rattle.std.specs.Prelude.{ℕ, Bool, List, [], ◌∷◌, ◌==◌, ◌||◌, nat_eq, length, drop, codes, Option, Some, None, if◌then◌else◌}
use Rattle.std.specs.List.{starts_with, slice_split}
use Rattle.std.specs.Option.{option_and_then}

abbrev pub is_line_feed : ℕ → Bool
is_line_feed byte = byte == 10

-- the lines of a file, without their line feeds
abbrev pub lines_of : List ℕ → List (List ℕ)
lines_of bytes = slice_split is_line_feed bytes

-- a space or a tab
abbrev pub is_blank : ℕ → Bool
is_blank byte = byte == 32 || byte == 9

-- what stands behind the blanks in front
abbrev pub without_blanks : List ℕ → List ℕ
without_blanks [] = []
without_blanks (byte ∷ bytes) = if is_blank byte then without_blanks bytes else byte ∷ bytes

-- what stands behind a word, where the text begins with that word
abbrev pub behind : List ℕ → List ℕ → Option (List ℕ)
behind word text = if starts_with nat_eq text word then Some (drop (length word) text) else None

abbrev pub behind_either : Option (List ℕ) → Option (List ℕ) → Option (List ℕ)
behind_either (Some text) other = Some text
behind_either None other = other

-- behind `include` or `import`, whichever stands behind the blanks
abbrev pub behind_directive : List ℕ → Option (List ℕ)
behind_directive text = behind_either (behind (codes "include") (without_blanks text)) (behind (codes "import") (without_blanks text))

-- `"` and `<`
abbrev pub quote : ℕ
quote = 34

abbrev pub angle : ℕ
angle = 60

-- a name ends at `"` or `>`, whatever opened it
abbrev pub ends_name : ℕ → Bool
ends_name byte = byte == quote || byte == 62

abbrev pub mark_in_front : List ℕ → Option (ℕ × List ℕ)
mark_in_front [] = None
mark_in_front (byte ∷ bytes) = if byte == quote || byte == angle then Some (byte, bytes) else None

-- the mark that opens a name, and what stands behind it
abbrev pub opened_by : List ℕ → Option (ℕ × List ℕ)
opened_by text = mark_in_front (without_blanks text)

-- the same in a whole line
abbrev pub opened : List ℕ → Option (ℕ × List ℕ)
opened line = option_and_then opened_by (option_and_then behind_directive (behind (codes "#") (without_blanks line)))
