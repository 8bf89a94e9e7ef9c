-- Names and their values: section 4.2 ("Naming and binding") of the Python language reference.
use Rattle.std.specs.Prelude.{ℕ, List, Option, String, fold, map, string_bytes}
use Rattle.std.specs.Map.{lookup}
use Rattle.std.specs.Str.{bytes_eq}
use Rattle.indexmap.specs.IndexMap.{insert_entry}
use Rattle.py_heap.specs.declared.value.Value.{Value}

-- in the order in which they were set first
abbrev pub Names : Type 0
Names = List (List ℕ × Value)

abbrev pub value_of : Names → List ℕ → Option Value
value_of names name = lookup (bytes_eq name) names

-- a name set: in its place, or last
abbrev pub with_name : Names → List ℕ → Value → Names
with_name names name v = insert_entry bytes_eq names name v

-- further names set, one after another
abbrev pub with_names : Names → Names → Names
with_names names more = fold (λ done e. with_name done e.0 e.1) names more

-- the entries of a table, with the names as bytes
abbrev pub names_in : {Z : Type 0} → List (String Z × Value) → Names
names_in entries = map (λ e. (string_bytes e.0, e.1)) entries
