-- A table by texts, read as names and their values.
use Rattle.std.proofs.Common.{◌≡◌, ℕ, List, [], ◌∷◌, Bool, true, false, cond, ap, sym, refl, String, Some}
use Rattle.std.specs.Prelude.{if◌then◌else◌, string_bytes}
use Rattle.std.specs.Map.{lookup}
use Rattle.std.specs.Str.{bytes_eq}
use Rattle.std.specs.String.{string_eq}
use Rattle.std.proofs.lemmas.Slice.Eq.{bytes_eq-Decides}
use Rattle.indexmap.specs.IndexMap.{insert_entry}
use Rattle.py_heap.specs.declared.value.Value.{Value}
use Rattle.py_host.specs.Names.{Names, value_of, with_name, names_in}

module _ {Z : Type 0} where
  pub value_is : (entries : List (String Z × Value)) (name : List ℕ) → lookup (λ k. bytes_eq name (string_bytes k)) entries ≡ value_of (names_in entries) name
  value_is [] name = refl
  value_is (e ∷ entries) name = ap (cond (bytes_eq name (string_bytes e.0)) (Some e.1)) (value_is entries name)

  with_by : (key : String Z) (value : Value) (e : String Z × Value) (entries : List (String Z × Value)) (b : Bool) → bytes_eq (string_bytes key) (string_bytes e.0) ≡ b
      → names_in (insert_entry string_eq entries key value) ≡ with_name (names_in entries) (string_bytes key) value
      → names_in (if b then (e.0, value) ∷ entries else e ∷ insert_entry string_eq entries key value)
      ≡ (if b then (string_bytes e.0, value) ∷ names_in entries else (string_bytes e.0, e.1) ∷ with_name (names_in entries) (string_bytes key) value)
  with_by key value e entries true same rest = refl
  with_by key value e entries false same rest = ap (λ l. (string_bytes e.0, e.1) ∷ l) rest

  pub with_is : (entries : List (String Z × Value)) (key : String Z) (value : Value) → names_in (insert_entry string_eq entries key value) ≡ with_name (names_in entries) (string_bytes key) value
  with_is [] key value = refl
  with_is (e ∷ entries) key value = with_by key value e entries (bytes_eq (string_bytes key) (string_bytes e.0)) refl (with_is entries key value)
