-- `enumerate` and `zip` among the "Built-in Functions" of the Python library reference. Both give lists of tuples (own). The
-- limits and the units are own too: the length of the list, of each tuple and of each new text, in one charge.
use Rattle.std.specs.Prelude.{ℕ, zero, suc, ◌+◌, ◌*◌, ◌^◌, ℤ, pos, ◌+ℤ◌, int_le, min, List, [], ◌∷◌, ◌++◌, length}
use Rattle.std.specs.Prelude.{map, slice_index_or, Result, Ok, Err, if◌then◌else◌}
use Rattle.py_heap.specs.declared.value.Value.{Value}
use Rattle.py_heap.specs.declared.value.Value.TheVariants as v
use Rattle.py_heap.specs.declared.fault.ValueFault.{ValueFault}
use Rattle.py_heap.specs.declared.fault.ValueFault.TheVariants as fault
use Rattle.py_heap.specs.Heap.{Objects}
use Rattle.py_heap.specs.Given.{next_list}
use Rattle.py_heap.specs.Many.{with_texts, with_tuple_list}
use Rattle.scons_base.specs.declared.limits.TheConstants.{LIST_LIMIT}
use Rattle.py_heap.specs.Units.{Units, charged, limited}
use Rattle.py_compare.specs.Outcomes.{Outcome, then_by}
use Rattle.py_compare.specs.Iterables.{needed_length, iterable_texts, iterable_items, total_length}
use Rattle.py_builtins.specs.Numbers.{as_int, counted}

-- the values at a place of columns
abbrev pub row_at : List (List Value) → ℕ → List Value
row_at columns place = map (λ column. slice_index_or column place v.Nil) columns

-- so many rows, from a place on
abbrev pub rows_from : ℕ → ℕ → List (List Value) → List (List Value)
rows_from place zero columns = []
rows_from place (suc n) columns = row_at columns place ∷ rows_from (suc place) n columns

-- so many integers from one on, of which the last has 64 bits
abbrev pub numbers_fit : ℤ → ℕ → Result (Unit {0}) ValueFault
numbers_fit from n = if int_le (from +ℤ pos n) (pos (2 ^ 63)) then Ok tt else Err fault.Overflow

-- what so many items with their numbers cost
abbrev pub numbered_cost : Objects → Value → ℕ → Result ℕ ValueFault
numbered_cost h x n = limited LIST_LIMIT n (3 * n + total_length (iterable_texts h n x))

-- the limit of the list comes first, then the numbers, then the charge
abbrev pub paid_numbered : Objects → Units → Value → ℕ → ℤ → Result Units ValueFault
paid_numbered h u x n from =
    then_by (numbered_cost h x n) (λ cost. then_by (numbers_fit from n) (λ fit. charged u cost))

-- each item with its number
abbrev pub numbered_rows : Objects → Value → ℕ → ℤ → List (List Value)
numbered_rows h x n from = rows_from 0 n (counted n from ∷ iterable_items h (length h.texts) n x ∷ [])

abbrev pub numbered : Objects → Units → Value → ℕ → ℤ → Outcome
numbered h u x n from =
    then_by (paid_numbered h u x n from) (λ left.
    Ok (next_list h, with_tuple_list (with_texts h (iterable_texts h n x)) (numbered_rows h x n from), left))

-- the items of a value, numbered from an integer on
abbrev pub enumerate_of : Objects → Units → Value → Value → Outcome
enumerate_of h u x from = then_by (needed_length h x) (λ n. then_by (as_int from) (λ m. numbered h u x n m))

abbrev pub shortest_from : Objects → ℕ → List Value → Result ℕ ValueFault
shortest_from h n [] = Ok n
shortest_from h n (x ∷ xs) = then_by (needed_length h x) (λ m. shortest_from h (min n m) xs)

-- how many items the shortest of some values gives; none where there is no value
abbrev pub shortest_of : Objects → List Value → Result ℕ ValueFault
shortest_of h [] = Ok 0
shortest_of h (x ∷ xs) = then_by (needed_length h x) (λ n. shortest_from h n xs)

-- how many new texts so many items of a value are
abbrev pub text_share : ℕ → Value → ℕ
text_share n (v.Text id) = n
text_share n other = 0

-- the new texts that so many items of each value are
abbrev pub zip_texts : Objects → ℕ → List Value → List (List ℕ)
zip_texts h n [] = []
zip_texts h n (x ∷ xs) = iterable_texts h n x ++ zip_texts h n xs

-- the items of each value, where the new texts of one are numbered behind those of the one before
abbrev pub zip_columns : Objects → ℕ → ℕ → List Value → List (List Value)
zip_columns h first n [] = []
zip_columns h first n (x ∷ xs) = iterable_items h first n x ∷ zip_columns h (first + text_share n x) n xs

-- how long the tuples are, if there is one
abbrev pub width_of : ℕ → ℕ → ℕ
width_of zero width = 0
width_of (suc n) width = width

-- what so many rows cost: the limit of the list comes first, then that of the tuples
abbrev pub zip_cost : Objects → List Value → ℕ → Result ℕ ValueFault
zip_cost h xs n =
    then_by (limited LIST_LIMIT n n) (λ rows.
    limited LIST_LIMIT (width_of n (length xs)) (n * (1 + length xs) + total_length (zip_texts h n xs)))

abbrev pub paid_zip : Objects → Units → List Value → ℕ → Result Units ValueFault
paid_zip h u xs n = then_by (zip_cost h xs n) (λ cost. charged u cost)

abbrev pub zipped : Objects → Units → List Value → ℕ → Outcome
zipped h u xs n =
    then_by (paid_zip h u xs n) (λ left.
    Ok (
      next_list h,
      with_tuple_list (with_texts h (zip_texts h n xs))
          (rows_from 0 n (zip_columns h (length h.texts) n xs)),
      left,
    ))

-- the items of some values side by side, as long as the shortest
abbrev pub zip_of : Objects → Units → List Value → Outcome
zip_of h u xs = then_by (shortest_of h xs) (λ n. zipped h u xs n)
