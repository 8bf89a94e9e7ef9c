-- A table of aliases, read as a list of pairs.
use Rattle.std.proofs.Common.{◌≡◌, ◌∙◌, ℕ, List, [], ◌∷◌, ◌++◌, Bool, true, false, cond, ap, sym, refl, String, Some, None}
use Rattle.std.specs.Prelude.{if◌then◌else◌, string_bytes, Vec, unwrap_or}
use Rattle.std.specs.Map.{lookup}
use Rattle.std.specs.Option.{option_map}
use Rattle.std.specs.Str.{bytes_eq}
use Rattle.std.specs.String.{string_eq}
use Rattle.std.proofs.lemmas.Slice.Eq.{bytes_eq-Decides}
use Rattle.indexmap.specs.IndexMap.{insert_entry}
use Rattle.scons_base.specs.declared.ids.NodeId.{NodeId}
use Rattle.rule_graph.specs.Aliases.{Alias, members_of, put, aliases_of}

module _ {Z W : Type 0} where
  pub members_of_is : (entries : List (String Z × Vec NodeId W)) (name : List ℕ) → option_map (λ (v : Vec NodeId W). v.items) (lookup (λ k. bytes_eq name (string_bytes k)) entries) ≡ members_of (aliases_of entries) name
  members_of_is [] name = refl
  members_of_is (e ∷ entries) name = by (bytes_eq name (string_bytes e.0)) (members_of_is entries name)
    where
      by : (b : Bool) → option_map (λ (v : Vec NodeId W). v.items) (lookup (λ k. bytes_eq name (string_bytes k)) entries) ≡ members_of (aliases_of entries) name
          → option_map (λ (v : Vec NodeId W). v.items) (cond b (Some e.1) (lookup (λ k. bytes_eq name (string_bytes k)) entries)) ≡ (if b then Some e.1.items else members_of (aliases_of entries) name)
      by true rest = refl
      by false rest = rest

  put_by : (key : String Z) (value : Vec NodeId W) (e : String Z × Vec NodeId W) (entries : List (String Z × Vec NodeId W)) (b : Bool) → bytes_eq (string_bytes key) (string_bytes e.0) ≡ b
      → aliases_of (insert_entry string_eq entries key value) ≡ put (aliases_of entries) (string_bytes key, value.items)
      → aliases_of (if b then (e.0, value) ∷ entries else e ∷ insert_entry string_eq entries key value)
      ≡ (if b then (string_bytes key, value.items) ∷ aliases_of entries else (string_bytes e.0, e.1.items) ∷ put (aliases_of entries) (string_bytes key, value.items))
  put_by key value e entries true same rest =
      let bytes = (bytes_eq-Decides (string_bytes key) (string_bytes e.0)).0 same in
      ap (λ n. (n, value.items) ∷ aliases_of entries) (sym bytes)
  put_by key value e entries false same rest = ap (λ l. (string_bytes e.0, e.1.items) ∷ l) rest

  pub put_is : (entries : List (String Z × Vec NodeId W)) (key : String Z) (value : Vec NodeId W) → aliases_of (insert_entry string_eq entries key value) ≡ put (aliases_of entries) (string_bytes key, value.items)
  put_is [] key value = refl
  put_is (e ∷ entries) key value = put_by key value e entries (bytes_eq (string_bytes key) (string_bytes e.0)) refl (put_is entries key value)
