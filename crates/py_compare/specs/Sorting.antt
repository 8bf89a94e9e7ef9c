-- Sorting: `list.sort` and `sorted` of the Python library reference, cut down to integers alone and texts alone. As there, a
-- sort is stable: items of which neither is less keep their order. Kinds are looked at before the units are charged (own).
use Rattle.std.specs.Prelude.{Bool, true, false, List, [], ◌∷◌, Result, Ok, Err, if◌then◌else◌, length}
use Rattle.std.specs.declared.cmp.Ordering.{Ordering}
use Rattle.std.specs.Ordering.{is_lt}
use Rattle.py_heap.specs.declared.value.Value.{Value}
use Rattle.py_heap.specs.declared.value.Value.TheVariants as v
use Rattle.py_heap.specs.declared.fault.ValueFault.{ValueFault}
use Rattle.py_heap.specs.Heap.{Objects}
use Rattle.py_heap.specs.Units.{Units, charged}
use Rattle.py_compare.specs.Outcomes.{then_by, mismatch}
use Rattle.py_compare.specs.Order.{order_of}

-- two integers or two texts: no others are sorted (own)
abbrev pub sortable : Value → Value → Bool
sortable (v.Int m) (v.Int n) = true
sortable (v.Text s) (v.Text t) = true
sortable x y = false

-- a value beside each item in turn
abbrev pub sortable_beside : Value → List Value → Result (Unit {0}) ValueFault
sortable_beside x [] = Ok tt
sortable_beside x (y ∷ ys) = if sortable x y then sortable_beside x ys else mismatch x y

-- the first item beside itself and then beside the others
abbrev pub sortable_items : List Value → Result (Unit {0}) ValueFault
sortable_items [] = Ok tt
sortable_items (x ∷ xs) = sortable_beside x (x ∷ xs)

abbrev is_less : Result Ordering ValueFault → Bool
is_less (Ok o) = is_lt o
is_less (Err e) = false

-- whether a value is less than another one
abbrev pub below : Objects → Value → Value → Bool
below h x y = is_less (order_of h x y)

-- an item put into sorted ones, in front of the first that isn't less
abbrev pub placed : {X : Type 0} → (X → X → Bool) → X → List X → List X
placed lt x [] = x ∷ []
placed lt x (y ∷ ys) = if lt y x then y ∷ placed lt x ys else x ∷ y ∷ ys

abbrev pub sorted_by : {X : Type 0} → (X → X → Bool) → List X → List X
sorted_by lt [] = []
sorted_by lt (x ∷ xs) = placed lt x (sorted_by lt xs)

-- items in order
abbrev pub in_order : Objects → List Value → List Value
in_order h items = sorted_by (below h) items

-- a sort costs one unit for each item, however it compares them (own)
abbrev pub sort_paid : Units → List Value → Result Units ValueFault
sort_paid u items = then_by (sortable_items items) (λ fit. charged u (length items))

abbrev pub sorted_of : Objects → Units → List Value → Result (List Value × Units) ValueFault
sorted_of h u items = then_by (sort_paid u items) (λ left. Ok (in_order h items, left))
