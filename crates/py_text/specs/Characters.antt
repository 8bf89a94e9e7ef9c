-- A text by its characters: section 3.2 ("Strings") of the Python language reference, 6.3.2 and 6.3.3 for places and slices,
-- and 6.10.1 for comparisons. In all files a text is the list of its UTF-8 bytes, `chars` is the list of its characters, each
-- a number, and `encode_utf8_all` is the text of a list of characters.
use Rattle.std.specs.Prelude.{ℕ, ◌-◌, List, Option, take, drop, length, slice_get, option_map, chars, encode_utf8, encode_utf8_all}
use Rattle.std.specs.declared.cmp.Ordering.{Ordering}
use Rattle.std.specs.Ordering.{nat_cmp}
use Rattle.std.specs.Cmp.Lexicographic.{slice_cmp}

-- how many characters a text has
abbrev pub char_count : List ℕ → ℕ
char_count text = length (chars text)

-- the character at a place, counted from 0, as a text of its own
abbrev pub char_at : List ℕ → ℕ → Option (List ℕ)
char_at text place = option_map encode_utf8 (slice_get (chars text) place)

-- the characters from one place on and before another one; where the text is shorter, those that are there
abbrev pub slice_of : List ℕ → ℕ → ℕ → List ℕ
slice_of text from to = encode_utf8_all (take (to - from) (drop from (chars text)))

-- how two texts compare: the first characters that differ decide, by their numbers, and else the lengths
abbrev pub compare : List ℕ → List ℕ → Ordering
compare a b = slice_cmp nat_cmp (chars a) (chars b)
