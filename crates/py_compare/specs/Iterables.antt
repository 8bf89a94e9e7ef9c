-- What a value gives item after item: "iterable" in the glossary of the Python documentation. A list or tuple gives its
-- items, a dict its keys in order of insertion, a text its characters, each as a new text. No other value gives any.
use Rattle.std.specs.Prelude.{ℕ, ◌+◌, List, [], ◌∷◌, length, map, take, chars, encode_utf8, Option, Some, None}
use Rattle.std.specs.Prelude.{Result, Ok}
use Rattle.py_text.specs.Characters.{char_count}
use Rattle.py_heap.specs.declared.value.Value.{Value}
use Rattle.py_heap.specs.declared.value.Value.TheVariants as v
use Rattle.py_heap.specs.declared.fault.ValueFault.{ValueFault}
use Rattle.py_heap.specs.Heap.{Objects, text_at, list_at, tuple_at, dict_at, keys_of}
use Rattle.py_heap.specs.Many.{text_values}
use Rattle.py_compare.specs.Outcomes.{mismatch}

-- how many items a value gives, if it gives any
abbrev pub iterable_length : Objects → Value → Option ℕ
iterable_length h (v.Text id) = Some (char_count (text_at h id.0))
iterable_length h (v.List id) = Some (length (list_at h id.0))
iterable_length h (v.Tuple id) = Some (length (tuple_at h id.0))
iterable_length h (v.Dict id) = Some (length (dict_at h id.0))
iterable_length h other = None

abbrev length_or : Value → Option ℕ → Result ℕ ValueFault
length_or x None = mismatch x x
length_or x (Some n) = Ok n

-- the same of an argument that has to give items
abbrev pub needed_length : Objects → Value → Result ℕ ValueFault
needed_length h x = length_or x (iterable_length h x)

-- the bytes of texts
abbrev pub total_length : List (List ℕ) → ℕ
total_length [] = 0
total_length (s ∷ rest) = length s + total_length rest

-- the first characters of a text, each as a text
abbrev pub characters : ℕ → List ℕ → List (List ℕ)
characters n s = map encode_utf8 (take n (chars s))

-- the new texts that stand for so many items
abbrev pub iterable_texts : Objects → ℕ → Value → List (List ℕ)
iterable_texts h n (v.Text id) = characters n (text_at h id.0)
iterable_texts h n other = []

-- the items: so many new texts are numbered from one on, all other values stand as they are
abbrev pub iterable_items : Objects → ℕ → ℕ → Value → List Value
iterable_items h first n (v.Text id) = text_values first n
iterable_items h first n (v.List id) = list_at h id.0
iterable_items h first n (v.Tuple id) = tuple_at h id.0
iterable_items h first n (v.Dict id) = keys_of (dict_at h id.0)
iterable_items h first n other = []
