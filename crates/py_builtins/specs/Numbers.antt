-- `len`, `range`, `int` and `str` among the "Built-in Functions" of the Python library reference. `range` gives a list (own).
use Rattle.std.specs.Prelude.{ℕ, zero, suc, ℤ, pos, ◌+ℤ◌, true, false, List, [], ◌∷◌, Result, Ok, Err}
use Rattle.std.specs.Int.{int_gap}
use Rattle.py_text.specs.Numbers.{int_of as spelled_number}
use Rattle.py_text.specs.declared.fault.IntFault.{IntFault}
use Rattle.py_text.specs.declared.fault.IntFault.TheVariants as spelling
use Rattle.py_heap.specs.declared.value.Value.{Value}
use Rattle.py_heap.specs.declared.value.Value.TheVariants as v
use Rattle.py_heap.specs.declared.fault.ValueFault.{ValueFault}
use Rattle.py_heap.specs.declared.fault.ValueFault.TheVariants as fault
use Rattle.py_heap.specs.Heap.{Objects, text_at, with_list}
use Rattle.py_heap.specs.Given.{next_list}
use Rattle.scons_base.specs.declared.limits.TheConstants.{LIST_LIMIT}
use Rattle.py_heap.specs.Units.{Units, room}
use Rattle.py_compare.specs.Outcomes.{Outcome, then_by, number, mismatch, new_text}
use Rattle.py_compare.specs.Numbers.{fitting}
use Rattle.py_compare.specs.Showing.{show_of}
use Rattle.py_compare.specs.Iterables.{needed_length}

-- how many characters, items or keys
abbrev pub len_of : Objects → Units → Value → Outcome
len_of h u x = then_by (needed_length h x) (λ n. number h u (fitting (pos n)))

-- how many integers there are from one on and below another one
abbrev pub span : ℤ → ℤ → ℕ
span from to = int_gap from to

-- so many integers, counted from one on
abbrev pub counted : ℕ → ℤ → List Value
counted zero from = []
counted (suc n) from = v.Int from ∷ counted n (from +ℤ pos 1)

abbrev pub range_list : Objects → Units → ℤ → ℤ → Outcome
range_list h u from to =
    then_by (room LIST_LIMIT u (span from to))
    (λ left. Ok (next_list h, with_list h (counted (span from to) from), left))

-- an argument that has to be an integer
abbrev pub as_int : Value → Result ℤ ValueFault
as_int (v.Int n) = Ok n
as_int x = mismatch x x

-- the arguments are looked at in order
abbrev pub range_of : Objects → Units → Value → Value → Outcome
range_of h u from to = then_by (as_int from) (λ m. then_by (as_int to) (λ n. range_list h u m n))

abbrev pub number_or_fault : Result ℤ IntFault → Result ℤ ValueFault
number_or_fault (Ok n) = Ok n
number_or_fault (Err spelling.BadText) = Err fault.BadText
number_or_fault (Err spelling.Overflow) = Err fault.Overflow

-- an integer as it is, a boolean as 1 or 0, and what a text spells: digits alone, behind at most one sign
abbrev pub int_of : Objects → Value → Result ℤ ValueFault
int_of h (v.Int n) = Ok n
int_of h (v.Bool true) = Ok (pos 1)
int_of h (v.Bool false) = Ok (pos 0)
int_of h (v.Text id) = number_or_fault (spelled_number (text_at h id.0))
int_of h x = mismatch x x

-- what a value shows, as a text: the units for showing, then its length
abbrev pub str_of : Objects → Units → Value → Outcome
str_of h u x = then_by (show_of h u x false) (λ s. new_text h s.1 s.0)
