-- Tables by names: lists of names with what each has, in the order in which the names came.
use Rattle.std.specs.Prelude.{ℕ, List, [], ◌∷◌, Option, Some, None, Bool, is_some, map, String, string_bytes, if◌then◌else◌}
use Rattle.std.specs.Str.{bytes_eq}

abbrev pub Table : Type 0 → Type 0
Table X = List (List ℕ × X)

-- what a name has, if it is there
abbrev pub value_at : {X : Type 0} → Table X → List ℕ → Option X
value_at [] name = None
value_at (row ∷ rows) name = if bytes_eq name row.0 then Some row.1 else value_at rows name

-- something put in the place of what the name has, or last with the name
abbrev pub put : {X : Type 0} → Table X → List ℕ → X → Table X
put [] name x = (name, x) ∷ []
put (row ∷ rows) name x = if bytes_eq name row.0 then (name, x) ∷ rows else row ∷ put rows name x

-- whether a name is there
abbrev pub has : {X : Type 0} → Table X → List ℕ → Bool
has rows name = is_some (value_at rows name)

-- the entries of a table, with the names as bytes
abbrev pub rows_of : {X Z : Type 0} → List (String Z × X) → Table X
rows_of entries = map (λ e. (string_bytes e.0, e.1)) entries
