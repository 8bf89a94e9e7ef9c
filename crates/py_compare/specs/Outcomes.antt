-- What an operation gives: a value with the heap and the units after it, or the fault.
use Rattle.std.specs.Prelude.{◌≢◌, ◌≡◌, ℕ, ℤ, List, Result, Ok, Err, IfErr, length}
use Rattle.py_heap.specs.declared.value.Value.{Value}
use Rattle.py_heap.specs.declared.value.Value.TheVariants as v
use Rattle.py_heap.specs.declared.fault.ValueFault.{ValueFault}
use Rattle.py_heap.specs.declared.fault.ValueFault.TheVariants as fault
use Rattle.py_heap.specs.Heap.{Objects, Entries, with_text, with_list, with_tuple, with_dict}
use Rattle.py_heap.specs.Given.{next_text, next_list, next_tuple, next_dict}
use Rattle.scons_base.specs.declared.limits.TheConstants.{TEXT_LIMIT, LIST_LIMIT}
use Rattle.py_heap.specs.Units.{Units, room}
use Rattle.py_heap.specs.Values.{kind_of}

abbrev pub Outcome : Type 0
Outcome = Result (Value × Objects × Units) ValueFault

-- every error but want of memory is the fault that was told; want of memory may come at any time
abbrev pub FailsAs : {X Y : Type 0} → Result X ValueFault → Result Y ValueFault → Type 0
FailsAs result told = IfErr result (λ e. e ≢ fault.Memory → told ≡ Err e)

-- a step and those behind it: a fault ends the operation
abbrev pub then_by : {X Y : Type 0} → Result X ValueFault → (X → Result Y ValueFault) → Result Y ValueFault
then_by (Ok x) f = f x
then_by (Err e) f = Err e

-- the operation isn't one of these two kinds
abbrev pub mismatch : {X : Type 0} → Value → Value → Result X ValueFault
mismatch a b = Err (fault.Mismatch (kind_of a) (kind_of b))

-- bytes or items that are charged for before they are made: their limit, then their charge
abbrev pub paid_text : Units → List ℕ → Result (List ℕ × Units) ValueFault
paid_text u s = then_by (room TEXT_LIMIT u (length s)) (λ left. Ok (s, left))

abbrev pub paid_items : Units → List Value → Result (List Value × Units) ValueFault
paid_items u items = then_by (room LIST_LIMIT u (length items)) (λ left. Ok (items, left))

-- a new text, list, tuple or dict
abbrev pub new_text : Objects → Units → List ℕ → Outcome
new_text h u s = then_by (paid_text u s) (λ made. Ok (next_text h, with_text h made.0, made.1))

abbrev pub new_list : Objects → Units → List Value → Outcome
new_list h u items = then_by (paid_items u items) (λ made. Ok (next_list h, with_list h made.0, made.1))

abbrev pub new_tuple : Objects → Units → List Value → Outcome
new_tuple h u items = then_by (paid_items u items) (λ made. Ok (next_tuple h, with_tuple h made.0, made.1))

abbrev pub new_dict : Objects → Units → Entries → Outcome
new_dict h u entries =
    then_by (room LIST_LIMIT u (length entries)) (λ left. Ok (next_dict h, with_dict h entries, left))

-- an answer that makes nothing
abbrev pub plain : Objects → Units → Result Value ValueFault → Outcome
plain h u answer = then_by answer (λ x. Ok (x, h, u))

-- an integer as an answer
abbrev pub number : Objects → Units → Result ℤ ValueFault → Outcome
number h u answer = then_by answer (λ n. Ok (v.Int n, h, u))

-- an answer that changes the heap and costs nothing
abbrev pub changed : Units → Result (Value × Objects) ValueFault → Outcome
changed u answer = then_by answer (λ c. Ok (c.0, c.1, u))
