-- What a `for` and a comprehension go over, and how the items are bound: sections 8.3 ("The for statement"), 6.2.4 and 7.2 of
-- the Python language reference.
use Rattle.std.specs.Prelude.{ℕ, ◌+◌, ◌==◌, nat_lt, List, [], ◌∷◌, Option, Some, None, Result, Ok, if◌then◌else◌, map}
use Rattle.std.specs.Prelude.{length, slice_get, slice_index, drop, chars, encode_utf8}
use Rattle.std.specs.Fmt.{is_char_start}
use Rattle.py_text.specs.Characters.{char_at}
use Rattle.py_heap.specs.declared.value.Value.{Value}
use Rattle.py_heap.specs.declared.value.Value.TheVariants as v
use Rattle.py_heap.specs.declared.fault.ValueFault.{ValueFault}
use Rattle.py_heap.specs.Heap.{Objects, text_at, list_at, tuple_at, dict_at, keys_of, with_text}
use Rattle.py_heap.specs.Given.{next_text}
use Rattle.py_heap.specs.Many.{with_texts, text_values}
use Rattle.py_compare.specs.Outcomes.{mismatch}
use Rattle.py_tree.specs.Tree.{Tree, cons, name, word}

-- what is left to go over
pub data Walk : Type 0 where
  -- a list from a place on: it may change meanwhile
  list_from : ℕ → ℕ → Walk
  -- the keys of a dict from a place on, as many as it had (own; Python refuses a dict that changes). No key is ever taken out.
  keys_from : ℕ → ℕ → ℕ → Walk
  -- a tuple from a place on
  tuple_from : ℕ → ℕ → Walk
  -- a text from a byte on
  text_from : ℕ → ℕ → Walk

-- the characters of a text, each as a text
abbrev pub characters_of : List ℕ → List (List ℕ)
characters_of s = map encode_utf8 (chars s)

abbrev pub walk_of : Objects → Value → Result Walk ValueFault
walk_of h (v.List id) = Ok (list_from id.0 0)
walk_of h (v.Tuple id) = Ok (tuple_from id.0 0)
walk_of h (v.Dict id) = Ok (keys_from id.0 0 (length (dict_at h id.0)))
walk_of h (v.Text id) = Ok (text_from id.0 0)
walk_of h other = mismatch other other

-- an item, the heap with it, and what is left behind it
abbrev pub item_by : Objects → Walk → Option Value → Option (Value × Objects × Walk)
item_by h rest None = None
item_by h rest (Some x) = Some (x, h, rest)

-- the character that begins at a byte of a text
abbrev pub char_from : List ℕ → ℕ → Option (List ℕ)
char_from s at = if is_char_start (slice_index s at) then char_at (drop at s) 0 else None

-- it is a new text
abbrev pub char_by : Objects → ℕ → ℕ → Option (List ℕ) → Option (Value × Objects × Walk)
char_by h id at None = None
char_by h id at (Some c) = Some (next_text h, with_text h c, text_from id (at + length c))

abbrev pub next_of : Objects → Walk → Option (Value × Objects × Walk)
next_of h (list_from id place) = item_by h (list_from id (place + 1)) (slice_get (list_at h id) place)
next_of h (keys_from id place count) =
    if nat_lt place count then item_by h (keys_from id (place + 1) count) (slice_get (keys_of (dict_at h id)) place)
    else None
next_of h (tuple_from id place) = item_by h (tuple_from id (place + 1)) (slice_get (tuple_at h id) place)
next_of h (text_from id at) = char_by h id at (char_from (text_at h id) at)

-- the items of a value, as many as there are names for them. Characters are new texts.
abbrev counted : ℕ → Value → List Value → Objects → Result (List Value × Objects) ValueFault
counted n x items h = if length items == n then Ok (items, h) else mismatch x x

abbrev counted_characters : Objects → ℕ → Value → List (List ℕ) → Result (List Value × Objects) ValueFault
counted_characters h n x cs =
    if length cs == n then Ok (text_values (length h.texts) (length cs), with_texts h cs) else mismatch x x

abbrev pub unpacked : Objects → ℕ → Value → Result (List Value × Objects) ValueFault
unpacked h n (v.List id) = counted n (v.List id) (list_at h id.0) h
unpacked h n (v.Tuple id) = counted n (v.Tuple id) (tuple_at h id.0) h
unpacked h n (v.Dict id) = counted n (v.Dict id) (keys_of (dict_at h id.0)) h
unpacked h n (v.Text id) = counted_characters h n (v.Text id) (characters_of (text_at h id.0))
unpacked h n other = mismatch other other

-- the names of a target, in order
abbrev pub names_of : Tree → List (List ℕ)
names_of (cons (word n) ts) = n ∷ names_of ts
names_of (cons (name l n) ts) = n ∷ names_of ts
names_of other = []

-- one name takes the value itself, several ones take its items
abbrev pub shared : Objects → List (List ℕ) → Value → Result (List Value × Objects) ValueFault
shared h (n ∷ []) x = Ok (x ∷ [], h)
shared h names x = unpacked h (length names) x
