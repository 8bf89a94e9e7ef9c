-- `replace` among the string methods of the Python library reference.
use Rattle.std.specs.Prelude.{ℕ, List, ◌++◌, ◌==◌, length, flat_map, if◌then◌else◌, chars, encode_utf8}
use Rattle.py_text.specs.Joining.{joined}
use Rattle.py_text.specs.Splitting.{split_of}

-- a text with another one before each of its characters and at its end
abbrev pub interspersed : List ℕ → List ℕ → List ℕ
interspersed text new = flat_map (λ c. new ++ encode_utf8 c) (chars text) ++ new

-- a text with the new text at each place of the old one; the empty text stands before each character and at the end
abbrev pub replaced : List ℕ → List ℕ → List ℕ → List ℕ
replaced text old new = if length old == 0 then interspersed text new else joined new (split_of text old)
