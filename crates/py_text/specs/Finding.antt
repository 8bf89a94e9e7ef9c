-- Where a text stands in another one: `find`, `startswith` and `endswith` among the string methods of the Python library
-- reference, and section 6.10.2 of the language reference for `in`.
use Rattle.std.specs.Prelude.{ℕ, suc, Bool, List, [], ◌∷◌, Option, None, Some, is_some, option_map, nat_eq, if◌then◌else◌, chars}
use Rattle.std.specs.List as list

-- whether a list begins with a part, and whether it ends with one
abbrev pub starts_with : List ℕ → List ℕ → Bool
starts_with xs part = list.starts_with nat_eq xs part

abbrev pub ends_with : List ℕ → List ℕ → Bool
ends_with xs part = list.ends_with nat_eq xs part

-- the first place from which on a list begins with a part; the empty part stands at place 0
abbrev pub first_place : List ℕ → List ℕ → Option ℕ
first_place part [] = if starts_with [] part then Some 0 else None
first_place part (x ∷ xs) = if starts_with (x ∷ xs) part then Some 0 else option_map suc (first_place part xs)

-- the place, in characters, where a part stands first
abbrev pub find_of : List ℕ → List ℕ → Option ℕ
find_of text part = first_place (chars part) (chars text)

-- whether a part stands somewhere in the text
abbrev pub contains : List ℕ → List ℕ → Bool
contains text part = is_some (find_of text part)
