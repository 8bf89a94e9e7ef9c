-- The words `NAME=value`, as a list of pairs.
use Rattle.std.specs.Prelude.{ℕ, List, [], ◌∷◌, ◌++◌, Option, Some, None, position, slice_set}
use Rattle.std.specs.Str.{bytes_eq}

abbrev pub Argument : Type 0
Argument = List ℕ × List ℕ

abbrev put_at : List Argument → Argument → Option ℕ → List Argument
put_at pairs new (Some place) = slice_set pairs place new
put_at pairs new None = pairs ++ new ∷ []

-- a pair in the place of the one of its name, or last
abbrev pub with_argument : List Argument → Argument → List Argument
with_argument pairs new = put_at pairs new (position (λ a. bytes_eq new.0 a.0) pairs)
