-- `list`, `tuple` and `dict` among the "Built-in Functions" of the Python library reference. The limit and the units are own:
-- the length, and the bytes of new texts, in one charge.
use Rattle.std.specs.Prelude.{ℕ, ◌+◌, length, Result, Ok}
use Rattle.py_heap.specs.declared.value.Value.{Value}
use Rattle.py_heap.specs.declared.value.Value.TheVariants as v
use Rattle.py_heap.specs.declared.fault.ValueFault.{ValueFault}
use Rattle.py_heap.specs.Heap.{Objects, dict_at, with_list, with_tuple}
use Rattle.py_heap.specs.Given.{next_list, next_tuple}
use Rattle.py_heap.specs.Many.{with_texts}
use Rattle.scons_base.specs.declared.limits.TheConstants.{LIST_LIMIT}
use Rattle.py_heap.specs.Units.{Units, charged, limited}
use Rattle.py_compare.specs.Outcomes.{Outcome, then_by, mismatch, new_dict}
use Rattle.py_compare.specs.Iterables.{needed_length, iterable_texts, iterable_items, total_length}

-- what a list or tuple of all that a value gives costs
abbrev pub items_cost : Objects → Value → ℕ → Result ℕ ValueFault
items_cost h x n = limited LIST_LIMIT n (n + total_length (iterable_texts h n x))

abbrev pub paid_items : Objects → Units → Value → ℕ → Result Units ValueFault
paid_items h u x n = then_by (items_cost h x n) (λ cost. charged u cost)

abbrev pub listed : Objects → Units → Value → ℕ → Outcome
listed h u x n =
    then_by (paid_items h u x n) (λ left.
    Ok (next_list h, with_list (with_texts h (iterable_texts h n x)) (iterable_items h (length h.texts) n x), left))

-- a list of all that a value gives
abbrev pub list_of : Objects → Units → Value → Outcome
list_of h u x = then_by (needed_length h x) (λ n. listed h u x n)

abbrev pub tupled : Objects → Units → Value → ℕ → Outcome
tupled h u x n =
    then_by (paid_items h u x n) (λ left.
    Ok (next_tuple h, with_tuple (with_texts h (iterable_texts h n x)) (iterable_items h (length h.texts) n x), left))

-- a tuple of all that a value gives
abbrev pub tuple_of : Objects → Units → Value → Outcome
tuple_of h u x = then_by (needed_length h x) (λ n. tupled h u x n)

-- a new dict with the entries of another one
abbrev pub dict_of : Objects → Units → Value → Outcome
dict_of h u (v.Dict id) = new_dict h u (dict_at h id.0)
dict_of h u x = mismatch x x
