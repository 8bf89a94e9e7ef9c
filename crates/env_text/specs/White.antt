-- How a text is cut into words at white space.
use Rattle.std.specs.Prelude.{ℕ, Bool, not, ◌==◌, List, filter, length}
use Rattle.std.specs.List.{slice_split}
use Rattle.env_text.specs.Bytes.{is_white}

abbrev pub is_word : List ℕ → Bool
is_word part = not (length part == 0)

-- the words of a text: what stands between white space, empty parts left out
abbrev pub words_of : List ℕ → List (List ℕ)
words_of text = filter is_word (slice_split is_white text)
