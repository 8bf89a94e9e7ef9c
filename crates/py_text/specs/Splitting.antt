-- `split` among the string methods of the Python library reference.
use Rattle.std.specs.Prelude.{ℕ, zero, suc, ◌+◌, Bool, not, List, [], ◌∷◌, ◌==◌, None, Some, length, take, drop, map, filter, chars, encode_utf8_all}
use Rattle.std.specs.List.{slice_split}
use Rattle.py_text.specs.Finding.{first_place}
use Rattle.py_text.specs.White.{is_white}

-- a list cut at the separator, from the front, with at most so many cuts: what stands before its first place is a part, and
-- what stands behind is cut on
abbrev pub split_up_to : ℕ → List ℕ → List ℕ → List (List ℕ)
split_up_to zero separator xs = xs ∷ []
split_up_to (suc cuts) separator xs = elim (first_place separator xs) [
  | None ↦ xs ∷ []
  | Some place ↦ take place xs ∷ split_up_to cuts separator (drop (place + length separator) xs)
]

-- the parts of a text, cut at each place of a separator that isn't empty; a text has no more cuts than characters
abbrev pub split_of : List ℕ → List ℕ → List (List ℕ)
split_of text separator = map encode_utf8_all (split_up_to (length (chars text)) (chars separator) (chars text))

-- a word isn't empty
abbrev pub is_word : List ℕ → Bool
is_word part = not (length part == 0)

-- the words of a text: what stands between white space, empty parts left out
abbrev pub words_of : List ℕ → List (List ℕ)
words_of text = map encode_utf8_all (filter is_word (slice_split is_white (chars text)))
