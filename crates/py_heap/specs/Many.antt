-- Many new texts or tuples at once, and a list of them.
use Rattle.std.specs.Prelude.{ℕ, zero, suc, List, [], ◌∷◌, ◌++◌, length}
use Rattle.py_heap.specs.declared.value.Value.{Value}
use Rattle.py_heap.specs.declared.value.Value.TheVariants as v
use Rattle.py_heap.specs.Heap.{Objects, with_list}

-- so many texts or tuples by their numbers, from one on
abbrev pub text_values : ℕ → ℕ → List Value
text_values n zero = []
text_values n (suc count) = v.Text (record { 0 = n }) ∷ text_values (suc n) count

abbrev pub tuple_values : ℕ → ℕ → List Value
tuple_values n zero = []
tuple_values n (suc count) = v.Tuple (record { 0 = n }) ∷ tuple_values (suc n) count

abbrev pub with_texts : Objects → List (List ℕ) → Objects
with_texts h texts = record h { texts = h.texts ++ texts }

abbrev pub with_tuples : Objects → List (List Value) → Objects
with_tuples h rows = record h { tuples = h.tuples ++ rows }

-- a list of new texts, and one of new tuples
abbrev pub with_text_list : Objects → List (List ℕ) → Objects
with_text_list h texts = with_list (with_texts h texts) (text_values (length h.texts) (length texts))

abbrev pub with_tuple_list : Objects → List (List Value) → Objects
with_tuple_list h rows = with_list (with_tuples h rows) (tuple_values (length h.tuples) (length rows))
