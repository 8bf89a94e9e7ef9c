-- The comparisons: section 6.10 of the Python language reference. Each pair of values that `==`, `!=` and `<` and its kin
-- meet costs one unit, and so does each pair that `in` meets in a list or tuple (own).
use Rattle.std.specs.Prelude.{ℕ, Bool, true, false, not, List, Option, Some, None, is_some, Result, Ok, Err}
use Rattle.std.specs.declared.cmp.Ordering.{Ordering}
use Rattle.py_text.specs.Finding.{contains}
use Rattle.py_heap.specs.declared.value.Value.{Value}
use Rattle.py_heap.specs.declared.value.Value.TheVariants as v
use Rattle.py_heap.specs.declared.key.Key.{Key}
use Rattle.py_heap.specs.declared.fault.ValueFault.{ValueFault}
use Rattle.py_heap.specs.declared.fault.ValueFault.TheVariants as fault
use Rattle.py_heap.specs.Heap.{Objects, Entries, text_at, list_at, tuple_at, dict_at}
use Rattle.py_heap.specs.Dicts.{key_of, entry_at}
use Rattle.py_heap.specs.Units.{Units, charged}
use Rattle.py_heap.specs.Values.{kind_of}
use Rattle.py_heap.specs.declared.kind.ValueKind.{ValueKind}
use Rattle.py_compare.specs.Outcomes.{Outcome, then_by, mismatch}
use Rattle.py_compare.specs.Equality.{Verdict, is_nil, place_from}
use Rattle.py_compare.specs.Order.{order_of}

-- an answer of true or false, that stays or is turned
abbrev pub told : Objects → Bool → Verdict → Outcome
told h false answer = then_by answer (λ a. Ok (v.Bool a.0, h, a.1))
told h true answer = then_by answer (λ a. Ok (v.Bool (not a.0), h, a.1))

-- how two values are ordered, once their meeting is charged for
abbrev pub ordered : Objects → Units → Value → Value → Result (Ordering × Units) ValueFault
ordered h u x y = then_by (charged u 1) (λ left. then_by (order_of h x y) (λ o. Ok (o, left)))

abbrev pub order_told : (Ordering → Bool) → Objects → Units → Value → Value → Outcome
order_told test h u x y = then_by (ordered h u x y) (λ o. Ok (v.Bool (test o.0), h, o.1))

-- whether an item stands in a list or tuple
abbrev pub is_among : Objects → Units → List Value → Value → Verdict
is_among h u items x = then_by (place_from 0 h u items x) (λ found. Ok (is_some found.0, found.1))

abbrev key_in : Units → Entries → ValueKind → Option Key → Verdict
key_in u entries kind None = Err (fault.KeyKind kind)
key_in u entries kind (Some k) = Ok (is_some (entry_at entries k), u)

abbrev text_in : Objects → Units → List ℕ → Value → Value → Verdict
text_in h u s box (v.Text id) = Ok (contains s (text_at h id.0), u)
text_in h u s box x = mismatch x box

-- `in`: an item of a list or tuple, a key of a dict, a part of a text
abbrev pub within_of : Objects → Units → Value → Value → Verdict
within_of h u x (v.List id) = is_among h u (list_at h id.0) x
within_of h u x (v.Tuple id) = is_among h u (tuple_at h id.0) x
within_of h u x (v.Dict id) = key_in u (dict_at h id.0) (kind_of x) (key_of h x)
within_of h u x (v.Text id) = text_in h u (text_at h id.0) (v.Text id) x
within_of h u x v.Nil = mismatch x v.Nil
within_of h u x (v.Bool b) = mismatch x (v.Bool b)
within_of h u x (v.Int n) = mismatch x (v.Int n)
within_of h u x (v.Func id) = mismatch x (v.Func id)
within_of h u x (v.Builtin b) = mismatch x (v.Builtin b)
within_of h u x (v.Object id) = mismatch x (v.Object id)

abbrev is_flag : Bool → Value → Bool
is_flag true (v.Bool b) = b
is_flag false (v.Bool b) = not b
is_flag flag x = false

-- `is`: whether a value is that very constant, None, True or False; it is no other value
abbrev pub is_constant : Value → Value → Bool
is_constant x v.Nil = is_nil x
is_constant x (v.Bool flag) = is_flag flag x
is_constant x (v.Int n) = false
is_constant x (v.Text id) = false
is_constant x (v.List id) = false
is_constant x (v.Tuple id) = false
is_constant x (v.Dict id) = false
is_constant x (v.Func id) = false
is_constant x (v.Builtin b) = false
is_constant x (v.Object id) = false
