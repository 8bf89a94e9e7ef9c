-- `sorted` among the "Built-in Functions" of the Python library reference: a list, in order, of all that a value gives.
use Rattle.std.specs.Prelude.{ℕ, length, Result, Ok}
use Rattle.py_heap.specs.declared.value.Value.{Value}
use Rattle.py_heap.specs.declared.fault.ValueFault.{ValueFault}
use Rattle.py_heap.specs.Heap.{Objects, with_list}
use Rattle.py_heap.specs.Given.{next_list}
use Rattle.py_heap.specs.Many.{with_texts}
use Rattle.py_heap.specs.Units.{Units, charged}
use Rattle.py_compare.specs.Outcomes.{Outcome, then_by}
use Rattle.py_compare.specs.Sorting.{sort_paid, in_order}
use Rattle.py_compare.specs.Iterables.{needed_length, iterable_texts, iterable_items}
use Rattle.py_builtins.specs.Collections.{items_cost}

-- the limit of the list comes first, then the sort with its units, then the charge for the list
abbrev pub paid_order : Objects → Units → Value → ℕ → Result Units ValueFault
paid_order h u x n =
    then_by (items_cost h x n) (λ cost.
    then_by (sort_paid u (iterable_items h (length h.texts) n x)) (λ left. charged left cost))

abbrev pub ordered_list : Objects → Units → Value → ℕ → Outcome
ordered_list h u x n =
    then_by (paid_order h u x n) (λ left.
    Ok (
      next_list h,
      with_list (with_texts h (iterable_texts h n x))
          (in_order (with_texts h (iterable_texts h n x)) (iterable_items h (length h.texts) n x)),
      left,
    ))

abbrev pub sorted_list_of : Objects → Units → Value → Outcome
sorted_list_of h u x = then_by (needed_length h x) (λ n. ordered_list h u x n)
