-- The arithmetic operators: sections 6.5 to 6.7 of the Python language reference. The kinds, the bound and the units are own.
use Rattle.std.specs.Prelude.{ℕ, ℤ, pos, ◌+ℤ◌, ◌-ℤ◌, ◌*ℤ◌, List, ◌++◌}
use Rattle.std.specs.List.{repeat}
use Rattle.py_text.specs.Joining.{repeated}
use Rattle.py_heap.specs.declared.value.Value.{Value}
use Rattle.py_heap.specs.declared.value.Value.TheVariants as v
use Rattle.py_heap.specs.Heap.{Objects, text_at, list_at, tuple_at}
use Rattle.py_heap.specs.Units.{Units}
use Rattle.py_compare.specs.Outcomes.{Outcome, number, mismatch, new_text, new_list, new_tuple}
use Rattle.py_compare.specs.Numbers.{fitting, divided}
use Rattle.py_operators.specs.Joining.{times_of}

abbrev sum_int : Objects → Units → ℤ → Value → Outcome
sum_int h u m (v.Int n) = number h u (fitting (m +ℤ n))
sum_int h u m y = mismatch (v.Int m) y

abbrev sum_text : Objects → Units → Value → List ℕ → Value → Outcome
sum_text h u x s (v.Text id) = new_text h u (s ++ text_at h id.0)
sum_text h u x s y = mismatch x y

abbrev sum_list : Objects → Units → Value → List Value → Value → Outcome
sum_list h u x items (v.List id) = new_list h u (items ++ list_at h id.0)
sum_list h u x items y = mismatch x y

abbrev sum_tuple : Objects → Units → Value → List Value → Value → Outcome
sum_tuple h u x items (v.Tuple id) = new_tuple h u (items ++ tuple_at h id.0)
sum_tuple h u x items y = mismatch x y

-- `+`: two integers, texts, lists or tuples
abbrev pub sum_of : Objects → Units → Value → Value → Outcome
sum_of h u (v.Int n) y = sum_int h u n y
sum_of h u (v.Text id) y = sum_text h u (v.Text id) (text_at h id.0) y
sum_of h u (v.List id) y = sum_list h u (v.List id) (list_at h id.0) y
sum_of h u (v.Tuple id) y = sum_tuple h u (v.Tuple id) (tuple_at h id.0) y
sum_of h u v.Nil y = mismatch v.Nil y
sum_of h u (v.Bool b) y = mismatch (v.Bool b) y
sum_of h u (v.Dict id) y = mismatch (v.Dict id) y
sum_of h u (v.Func id) y = mismatch (v.Func id) y
sum_of h u (v.Builtin b) y = mismatch (v.Builtin b) y
sum_of h u (v.Object id) y = mismatch (v.Object id) y

-- two integers, with what a function of them gives
abbrev integers_by : Objects → Units → (ℤ → Outcome) → Value → Value → Outcome
integers_by h u f x (v.Int n) = f n
integers_by h u f x y = mismatch x y

-- `-` and `//`: two integers
abbrev pub difference_of : Objects → Units → Value → Value → Outcome
difference_of h u (v.Int m) y = integers_by h u (λ n. number h u (fitting (m -ℤ n))) (v.Int m) y
difference_of h u v.Nil y = mismatch v.Nil y
difference_of h u (v.Bool b) y = mismatch (v.Bool b) y
difference_of h u (v.Text id) y = mismatch (v.Text id) y
difference_of h u (v.List id) y = mismatch (v.List id) y
difference_of h u (v.Tuple id) y = mismatch (v.Tuple id) y
difference_of h u (v.Dict id) y = mismatch (v.Dict id) y
difference_of h u (v.Func id) y = mismatch (v.Func id) y
difference_of h u (v.Builtin b) y = mismatch (v.Builtin b) y
difference_of h u (v.Object id) y = mismatch (v.Object id) y

abbrev pub quotient_of : Objects → Units → Value → Value → Outcome
quotient_of h u (v.Int m) y = integers_by h u (λ n. number h u (divided m n)) (v.Int m) y
quotient_of h u v.Nil y = mismatch v.Nil y
quotient_of h u (v.Bool b) y = mismatch (v.Bool b) y
quotient_of h u (v.Text id) y = mismatch (v.Text id) y
quotient_of h u (v.List id) y = mismatch (v.List id) y
quotient_of h u (v.Tuple id) y = mismatch (v.Tuple id) y
quotient_of h u (v.Dict id) y = mismatch (v.Dict id) y
quotient_of h u (v.Func id) y = mismatch (v.Func id) y
quotient_of h u (v.Builtin b) y = mismatch (v.Builtin b) y
quotient_of h u (v.Object id) y = mismatch (v.Object id) y

-- a text, list or tuple repeated
abbrev repeat_text : Objects → Units → List ℕ → ℤ → Outcome
repeat_text h u s n = new_text h u (repeated s (times_of n))

abbrev repeat_list : Objects → Units → List Value → ℤ → Outcome
repeat_list h u items n = new_list h u (repeat (times_of n) items)

abbrev repeat_tuple : Objects → Units → List Value → ℤ → Outcome
repeat_tuple h u items n = new_tuple h u (repeat (times_of n) items)

abbrev product_int : Objects → Units → ℤ → Value → Outcome
product_int h u m (v.Int n) = number h u (fitting (m *ℤ n))
product_int h u m (v.Text id) = repeat_text h u (text_at h id.0) m
product_int h u m (v.List id) = repeat_list h u (list_at h id.0) m
product_int h u m (v.Tuple id) = repeat_tuple h u (tuple_at h id.0) m
product_int h u m v.Nil = mismatch (v.Int m) v.Nil
product_int h u m (v.Bool b) = mismatch (v.Int m) (v.Bool b)
product_int h u m (v.Dict id) = mismatch (v.Int m) (v.Dict id)
product_int h u m (v.Func id) = mismatch (v.Int m) (v.Func id)
product_int h u m (v.Builtin b) = mismatch (v.Int m) (v.Builtin b)
product_int h u m (v.Object id) = mismatch (v.Int m) (v.Object id)

-- `*`: two integers, or a text, list or tuple and an integer on either side
abbrev pub product_of : Objects → Units → Value → Value → Outcome
product_of h u (v.Int n) y = product_int h u n y
product_of h u (v.Text id) y = integers_by h u (repeat_text h u (text_at h id.0)) (v.Text id) y
product_of h u (v.List id) y = integers_by h u (repeat_list h u (list_at h id.0)) (v.List id) y
product_of h u (v.Tuple id) y = integers_by h u (repeat_tuple h u (tuple_at h id.0)) (v.Tuple id) y
product_of h u v.Nil y = mismatch v.Nil y
product_of h u (v.Bool b) y = mismatch (v.Bool b) y
product_of h u (v.Dict id) y = mismatch (v.Dict id) y
product_of h u (v.Func id) y = mismatch (v.Func id) y
product_of h u (v.Builtin b) y = mismatch (v.Builtin b) y
product_of h u (v.Object id) y = mismatch (v.Object id) y

-- the sign turned: an integer alone
abbrev pub negative_of : Objects → Units → Value → Outcome
negative_of h u (v.Int n) = number h u (fitting (pos 0 -ℤ n))
negative_of h u v.Nil = mismatch v.Nil v.Nil
negative_of h u (v.Bool b) = mismatch (v.Bool b) (v.Bool b)
negative_of h u (v.Text id) = mismatch (v.Text id) (v.Text id)
negative_of h u (v.List id) = mismatch (v.List id) (v.List id)
negative_of h u (v.Tuple id) = mismatch (v.Tuple id) (v.Tuple id)
negative_of h u (v.Dict id) = mismatch (v.Dict id) (v.Dict id)
negative_of h u (v.Func id) = mismatch (v.Func id) (v.Func id)
negative_of h u (v.Builtin b) = mismatch (v.Builtin b) (v.Builtin b)
negative_of h u (v.Object id) = mismatch (v.Object id) (v.Object id)
