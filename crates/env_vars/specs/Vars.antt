-- An environment's own variables: a list of pairs of name and value.
use Rattle.std.specs.Prelude.{ℕ, List, [], ◌∷◌, Option, Some, None, map, fold, String, string_bytes, if◌then◌else◌}
use Rattle.std.specs.Str.{bytes_eq}
use Rattle.env_vars.specs.declared.value.EnvValue.{EnvValue}

abbrev pub Var : Type 0
Var = List ℕ × EnvValue

-- the value of a name, if the list has it
abbrev pub value_at : List Var → List ℕ → Option EnvValue
value_at [] name = None
value_at (var ∷ vars) name = if bytes_eq name var.0 then Some var.1 else value_at vars name

-- a value put in the place of the one that the name has, or last with the name
abbrev pub put : List Var → Var → List Var
put [] new = new ∷ []
put (var ∷ vars) new = if bytes_eq new.0 var.0 then new ∷ vars else var ∷ put vars new

-- several put, one after another
abbrev pub put_all : List Var → List Var → List Var
put_all vars more = fold put vars more

-- the entries of a table, with the names as bytes
abbrev pub vars_of : {Z : Type 0} → List (String Z × EnvValue) → List Var
vars_of entries = map (λ e. (string_bytes e.0, e.1)) entries
