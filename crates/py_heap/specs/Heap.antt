-- The heap of a reading, as plain lists. Nothing is taken out of it: a number once given names the same thing.
use Rattle.std.specs.Prelude.{ℕ, pos, Bool, true, false, not, ◌==◌, nat_eq, List, [], ◌∷◌, ◌++◌, Option, Some, None, length, map, slice_get, slice_set, slice_index_or}
use Rattle.std.specs.Map.{lookup}
use Rattle.std.specs.Option.{option_map}
use Rattle.std.specs.Ordering.{int_eq}
use Rattle.indexmap.specs.IndexMap.{insert_entry}
use Rattle.py_heap.specs.declared.value.Value.{Value}
use Rattle.py_heap.specs.declared.value.Value.TheVariants as v
use Rattle.py_heap.specs.declared.key.Key.{Key}
use Rattle.py_heap.specs.declared.dict.Entry.{Entry}

-- a dict is the list of its entries in order of insertion, each with the key that it is found by, the value that was
-- given as its key first, and its item
abbrev pub Entries : Type 0
Entries = List (Key × Entry)

abbrev pub Items : Type 0
Items = List Value

pub record Objects : Type 0 where
  -- texts, as bytes in UTF-8
  pub texts : List (List ℕ)
  pub lists : List (List Value)
  pub tuples : List (List Value)
  pub dicts : List Entries
  -- the texts by which objects show, by their numbers
  pub shown : List (ℕ × List ℕ)

abbrev pub no_objects : Objects
no_objects = record { texts = []; lists = []; tuples = []; dicts = []; shown = [] }

-- what a number names; a number that the heap didn't give names nothing, read as an empty thing
abbrev pub text_at : Objects → ℕ → List ℕ
text_at h i = slice_index_or h.texts i []

abbrev pub list_at : Objects → ℕ → List Value
list_at h i = slice_index_or h.lists i []

abbrev pub tuple_at : Objects → ℕ → List Value
tuple_at h i = slice_index_or h.tuples i []

abbrev pub dict_at : Objects → ℕ → Entries
dict_at h i = slice_index_or h.dicts i []

abbrev pub text_of : Objects → Value → Option (List ℕ)
text_of h (v.Text id) = Some (text_at h id.0)
text_of h other = None

abbrev pub items_of : Objects → Value → Option (List Value)
items_of h (v.List id) = Some (list_at h id.0)
items_of h (v.Tuple id) = Some (tuple_at h id.0)
items_of h other = None

-- the pair at a place of a dict
abbrev pub pair_of : Objects → Value → ℕ → Option (Value × Value)
pair_of h (v.Dict id) i = option_map (λ e. (e.1.key, e.1.item)) (slice_get (dict_at h id.0) i)
pair_of h other i = None

-- what is false: empty things, 0, None and False
abbrev pub truth_of : Objects → Value → Bool
truth_of h v.Nil = false
truth_of h (v.Bool b) = b
truth_of h (v.Int n) = not (int_eq n (pos 0))
truth_of h (v.Text id) = not (length (text_at h id.0) == 0)
truth_of h (v.List id) = not (length (list_at h id.0) == 0)
truth_of h (v.Tuple id) = not (length (tuple_at h id.0) == 0)
truth_of h (v.Dict id) = not (length (dict_at h id.0) == 0)
truth_of h (v.Func id) = true
truth_of h (v.Builtin b) = true
truth_of h (v.Object id) = true

-- a heap with one more thing of a kind: the numbers of the others stay
abbrev pub with_text : Objects → List ℕ → Objects
with_text h text = record h { texts = h.texts ++ text ∷ [] }

abbrev pub with_list : Objects → List Value → Objects
with_list h items = record h { lists = h.lists ++ items ∷ [] }

abbrev pub with_tuple : Objects → List Value → Objects
with_tuple h items = record h { tuples = h.tuples ++ items ∷ [] }

abbrev pub with_dict : Objects → Entries → Objects
with_dict h entries = record h { dicts = h.dicts ++ entries ∷ [] }

-- a heap with other contents of a list or dict, which stands under its number for all who hold it
abbrev pub with_list_at : Objects → ℕ → List Value → Objects
with_list_at h i items = record h { lists = slice_set h.lists i items }

abbrev pub with_dict_at : Objects → ℕ → Entries → Objects
with_dict_at h i entries = record h { dicts = slice_set h.dicts i entries }

-- a heap in which an object shows as this text
abbrev pub with_shown : Objects → ℕ → List ℕ → Objects
with_shown h i text = record h { shown = insert_entry nat_eq h.shown i text }

-- the text by which an object shows
abbrev pub shown_of : Objects → ℕ → Option (List ℕ)
shown_of h i = lookup (nat_eq i) h.shown

-- the values that were given as keys of a dict, and its items
abbrev pub keys_of : Entries → List Value
keys_of entries = map (λ e. e.1.key) entries

abbrev pub items_in : Entries → List Value
items_in entries = map (λ e. e.1.item) entries
