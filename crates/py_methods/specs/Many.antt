-- Lists of new texts and of new tuples: the limit is the list's, and the charge is for the list and for all that stand in it.
use Rattle.std.specs.Prelude.{ℕ, ◌+◌, ◌*◌, List, [], ◌∷◌, length, map, Result, Ok}
use Rattle.py_heap.specs.declared.value.Value.{Value}
use Rattle.py_heap.specs.declared.fault.ValueFault.{ValueFault}
use Rattle.py_heap.specs.Heap.{Objects, Entries}
use Rattle.py_heap.specs.Given.{next_list}
use Rattle.py_heap.specs.Many.{with_text_list, with_tuple_list}
use Rattle.scons_base.specs.declared.limits.TheConstants.{LIST_LIMIT}
use Rattle.py_heap.specs.Units.{Units, charged, limited}
use Rattle.py_compare.specs.Outcomes.{Outcome, then_by}
use Rattle.py_compare.specs.Iterables.{total_length}
use Rattle.py_compare.specs.Showing.{entries_of}

abbrev pub paid_texts : Units → List (List ℕ) → Result (List (List ℕ) × Units) ValueFault
paid_texts u texts =
    then_by (limited LIST_LIMIT (length texts) (length texts + total_length texts))
    (λ n. then_by (charged u n) (λ left. Ok (texts, left)))

abbrev pub text_list : Objects → Units → List (List ℕ) → Outcome
text_list h u texts = then_by (paid_texts u texts) (λ made. Ok (next_list h, with_text_list h made.0, made.1))

-- tuples of two
abbrev pub paid_pairs : Units → List (List Value) → Result (List (List Value) × Units) ValueFault
paid_pairs u rows =
    then_by (limited LIST_LIMIT (length rows) (3 * length rows))
    (λ n. then_by (charged u n) (λ left. Ok (rows, left)))

abbrev pub pair_list : Objects → Units → List (List Value) → Outcome
pair_list h u rows = then_by (paid_pairs u rows) (λ made. Ok (next_list h, with_tuple_list h made.0, made.1))

-- the pairs of a dict
abbrev pub pair_rows : Entries → List (List Value)
pair_rows entries = map (λ e. e.key ∷ e.item ∷ []) (entries_of entries)
