-- What an index and a slice give: sections 6.3.2 and 6.3.3 of the Python language reference.
use Rattle.std.specs.Prelude.{ℕ, ℤ, List, [], Option, Some, None, Result, Ok, Err}
use Rattle.py_text.specs.Characters.{char_count, char_at, slice_of as text_slice}
use Rattle.py_heap.specs.declared.value.Value.{Value}
use Rattle.py_heap.specs.declared.value.Value.TheVariants as v
use Rattle.py_heap.specs.declared.fault.ValueFault.{ValueFault}
use Rattle.py_heap.specs.declared.fault.ValueFault.TheVariants as fault
use Rattle.py_heap.specs.Heap.{Objects, text_at, list_at, tuple_at, dict_at}
use Rattle.py_heap.specs.Units.{Units}
use Rattle.py_compare.specs.Outcomes.{Outcome, then_by, plain, mismatch, new_text, new_list, new_tuple}
use Rattle.py_operators.specs.Places.{place_in, item_at, keyed}
use Rattle.py_operators.specs.Slices.{from_in, to_in, slice_of}

-- a character as a text of its own
abbrev char_or_none : Option (List ℕ) → List ℕ
char_or_none None = []
char_or_none (Some c) = c

abbrev pub char_text : List ℕ → ℕ → List ℕ
char_text s n = char_or_none (char_at s n)

abbrev char_by : Objects → Units → List ℕ → ℤ → Option ℕ → Outcome
char_by h u s i None = Err (fault.Index i (char_count s))
char_by h u s i (Some n) = new_text h u (char_text s n)

abbrev pub char_in : Objects → Units → List ℕ → ℤ → Outcome
char_in h u s i = char_by h u s i (place_in i (char_count s))

abbrev text_item : Objects → Units → List ℕ → Value → Value → Outcome
text_item h u s a (v.Int i) = char_in h u s i
text_item h u s a i = mismatch a i

-- an item of a list or tuple, the item under a key of a dict, a character of a text
abbrev pub indexed : Objects → Units → Value → Value → Outcome
indexed h u (v.List id) i = plain h u (item_at (list_at h id.0) (v.List id) i)
indexed h u (v.Tuple id) i = plain h u (item_at (tuple_at h id.0) (v.Tuple id) i)
indexed h u (v.Dict id) i = plain h u (keyed h (dict_at h id.0) i)
indexed h u (v.Text id) i = text_item h u (text_at h id.0) (v.Text id) i
indexed h u v.Nil i = mismatch v.Nil v.Nil
indexed h u (v.Bool b) i = mismatch (v.Bool b) (v.Bool b)
indexed h u (v.Int n) i = mismatch (v.Int n) (v.Int n)
indexed h u (v.Func id) i = mismatch (v.Func id) (v.Func id)
indexed h u (v.Builtin b) i = mismatch (v.Builtin b) (v.Builtin b)
indexed h u (v.Object id) i = mismatch (v.Object id) (v.Object id)

-- an end of a slice that isn't left out is an integer
abbrev end_by : Value → Value → Result (Option ℤ) ValueFault
end_by a (v.Int i) = Ok (Some i)
end_by a i = mismatch a i

abbrev pub end_of : Value → Option Value → Result (Option ℤ) ValueFault
end_of a None = Ok None
end_of a (Some i) = end_by a i

-- the first end is looked at first
abbrev pub between : Value → Option Value → Option Value → (Option ℤ → Option ℤ → Outcome) → Outcome
between a from to f = then_by (end_of a from) (λ m. then_by (end_of a to) (f m))

abbrev pub text_between : List ℕ → Option ℤ → Option ℤ → List ℕ
text_between s m n = text_slice s (from_in m (char_count s)) (to_in n (char_count s))

-- the items of a list or tuple, or the characters of a text, between two ends
abbrev pub sliced : Objects → Units → Value → Option Value → Option Value → Outcome
sliced h u (v.List id) from to = between (v.List id) from to (λ m n. new_list h u (slice_of (list_at h id.0) m n))
sliced h u (v.Tuple id) from to = between (v.Tuple id) from to (λ m n. new_tuple h u (slice_of (tuple_at h id.0) m n))
sliced h u (v.Text id) from to = between (v.Text id) from to (λ m n. new_text h u (text_between (text_at h id.0) m n))
sliced h u v.Nil from to = mismatch v.Nil v.Nil
sliced h u (v.Bool b) from to = mismatch (v.Bool b) (v.Bool b)
sliced h u (v.Int n) from to = mismatch (v.Int n) (v.Int n)
sliced h u (v.Dict id) from to = mismatch (v.Dict id) (v.Dict id)
sliced h u (v.Func id) from to = mismatch (v.Func id) (v.Func id)
sliced h u (v.Builtin b) from to = mismatch (v.Builtin b) (v.Builtin b)
sliced h u (v.Object id) from to = mismatch (v.Object id) (v.Object id)
