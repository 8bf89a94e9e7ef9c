-- Aliases: names with their members, in the order in which they were first named.
use Rattle.std.specs.Prelude.{ℕ, List, [], ◌∷◌, ◌++◌, Option, Some, None, unwrap_or, map, String, Vec, string_bytes, if◌then◌else◌}
use Rattle.std.specs.Str.{bytes_eq}
use Rattle.scons_base.specs.declared.ids.NodeId.{NodeId}

abbrev pub Alias : Type 0
Alias = List ℕ × List NodeId

-- the members of an alias
abbrev pub members_of : List Alias → List ℕ → Option (List NodeId)
members_of [] name = None
members_of (alias ∷ aliases) name = if bytes_eq name alias.0 then Some alias.1 else members_of aliases name

-- an alias put in the place of the one of its name, or last
abbrev pub put : List Alias → Alias → List Alias
put [] new = new ∷ []
put (alias ∷ aliases) new = if bytes_eq new.0 alias.0 then new ∷ aliases else alias ∷ put aliases new

-- an alias with further members behind those there
abbrev pub with_members : List Alias → List ℕ → List NodeId → List Alias
with_members aliases name more = put aliases (name, unwrap_or (members_of aliases name) [] ++ more)

-- the entries of a table, with the names as bytes
abbrev pub aliases_of : {Z W : Type 0} → List (String Z × Vec NodeId W) → List Alias
aliases_of entries = map (λ e. (string_bytes e.0, e.1.items)) entries
