-- The methods of a list: "Mutable Sequence Types" in the Python library reference. The limit is own.
use Rattle.std.specs.Prelude.{ℕ, ◌+◌, ℤ, pos, negsuc, List, [], ◌∷◌, ◌++◌, length, Option, Some, None, Result, Ok}
use Rattle.std.specs.Prelude.{Err, slice_index_or, insert, remove, reverse}
use Rattle.py_heap.specs.declared.value.Value.{Value}
use Rattle.py_heap.specs.declared.value.Value.TheVariants as v
use Rattle.py_heap.specs.declared.fault.ValueFault.{ValueFault}
use Rattle.py_heap.specs.declared.fault.ValueFault.TheVariants as fault
use Rattle.py_heap.specs.Heap.{Objects, list_at, with_list_at}
use Rattle.py_heap.specs.Dicts.{missing}
use Rattle.py_heap.specs.Many.{with_texts}
use Rattle.scons_base.specs.declared.limits.TheConstants.{LIST_LIMIT}
use Rattle.py_heap.specs.Units.{Units, charged, limited}
use Rattle.py_compare.specs.Outcomes.{Outcome, then_by, number, mismatch}
use Rattle.py_compare.specs.Numbers.{fitting}
use Rattle.py_compare.specs.Equality.{place_from}
use Rattle.py_compare.specs.Sorting.{sorted_of}
use Rattle.py_operators.specs.Places.{place_in}
use Rattle.py_operators.specs.Slices.{end_in}
use Rattle.py_compare.specs.Iterables.{total_length, iterable_length, iterable_texts, iterable_items}

-- a value beside the heap after a list was changed
abbrev pub Changed : Type 0
Changed = Result (Value × Objects) ValueFault

-- the list numbered `id` with other items, and None as the answer
abbrev pub with_items : Objects → ℕ → List Value → Value × Objects
with_items h id items = (v.Nil, with_list_at h id items)

abbrev pub append_of : Objects → ℕ → Value → Changed
append_of h id x = limited LIST_LIMIT (length (list_at h id) + 1) (with_items h id (list_at h id ++ x ∷ []))

-- so many items of a value behind those of a list: the limit of the list, then a charge for the bytes of new texts
abbrev pub extended : Objects → Units → ℕ → Value → ℕ → Outcome
extended h u id x n =
    then_by (limited LIST_LIMIT (length (list_at h id) + n) n) (λ count.
    then_by (charged u (total_length (iterable_texts h count x))) (λ left.
    Ok (
      v.Nil,
      with_list_at (with_texts h (iterable_texts h count x)) id
          (list_at h id ++ iterable_items h (length h.texts) count x),
      left,
    )))

abbrev extend_by : Objects → Units → ℕ → Value → Option ℕ → Outcome
extend_by h u id x None = mismatch (v.List (record { 0 = id })) x
extend_by h u id x (Some n) = extended h u id x n

-- the items of a list, tuple, dict or text behind those of a list
abbrev pub extend_of : Objects → Units → ℕ → Value → Outcome
extend_of h u id x = extend_by h u id x (iterable_length h x)

-- in front of the item at a place, as an end of a slice names it
abbrev pub insert_at : Objects → ℕ → ℤ → Value → Changed
insert_at h id i x =
    limited LIST_LIMIT (length (list_at h id) + 1)
    (with_items h id (insert (list_at h id) (end_in i (length (list_at h id))) x))

abbrev pub insert_of : Objects → ℕ → Value → Value → Value → Changed
insert_of h id a (v.Int i) x = insert_at h id i x
insert_of h id a i x = mismatch a i

abbrev pop_by : Objects → ℕ → ℤ → Option ℕ → Changed
pop_by h id i None = Err (fault.Index i (length (list_at h id)))
pop_by h id i (Some n) = Ok (slice_index_or (list_at h id) n v.Nil, with_list_at h id (remove (list_at h id) n))

abbrev pub pop_at : Objects → ℕ → ℤ → Changed
pop_at h id i = pop_by h id i (place_in i (length (list_at h id)))

abbrev pub pop_of : Objects → ℕ → Value → Value → Changed
pop_of h id a (v.Int i) = pop_at h id i
pop_of h id a i = mismatch a i

-- without an index it takes the last item
abbrev pub pop_last_of : Objects → ℕ → Changed
pop_last_of h id = pop_at h id (negsuc 0)

abbrev remove_by : Objects → ℕ → Value → Option ℕ × Units → Outcome
remove_by h id x found = elim found.0 [
  | None ↦ Err (missing h x)
  | Some n ↦ Ok (v.Nil, with_list_at h id (remove (list_at h id) n), found.1)
]

-- the first item equal to a value goes; where there is none, the value is the fault
abbrev pub remove_of : Objects → Units → ℕ → Value → Outcome
remove_of h u id x = then_by (place_from 0 h u (list_at h id) x) (remove_by h id x)

abbrev index_by : Objects → Value → Option ℕ × Units → Outcome
index_by h x found = elim found.0 [
  | None ↦ Err (missing h x)
  | Some n ↦ number h found.1 (fitting (pos n))
]

-- the place of the first item equal to a value
abbrev pub index_of : Objects → Units → ℕ → Value → Outcome
index_of h u id x = then_by (place_from 0 h u (list_at h id) x) (index_by h x)

abbrev pub reverse_of : Objects → ℕ → Value × Objects
reverse_of h id = with_items h id (reverse (list_at h id))

-- all integers or all texts in order
abbrev pub sort_of : Objects → Units → ℕ → Outcome
sort_of h u id = then_by (sorted_of h u (list_at h id)) (λ s. Ok (v.Nil, with_list_at h id s.0, s.1))
