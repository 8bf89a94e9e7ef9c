-- Equality by content: section 6.10.1 ("Value comparisons") of the Python language reference. Units and levels are own.
use Rattle.std.specs.Prelude.{ℕ, zero, suc, ℤ, pos, Bool, true, false, List, [], ◌∷◌, ◌==◌, nat_eq, Option, Some}
use Rattle.std.specs.Prelude.{None, Result, Ok, Err, if◌then◌else◌, length, map}
use Rattle.std.specs.Option.{option_map}
use Rattle.scons_base.specs.declared.limits.TheConstants.{VALUE_DEPTH_LIMIT}
use Rattle.py_heap.specs.declared.key.Key.{Key}
use Rattle.std.specs.Ordering.{int_eq}
use Rattle.std.specs.Str.{bytes_eq}
use Rattle.py_heap.specs.declared.value.Value.{Value}
use Rattle.py_heap.specs.declared.value.Value.TheVariants as v
use Rattle.py_heap.specs.declared.value.Builtin.{Builtin}
use Rattle.py_heap.specs.declared.value.Builtin.TheVariants as b
use Rattle.py_heap.specs.declared.dict.Entry.{Entry}
use Rattle.py_heap.specs.declared.fault.ValueFault.{ValueFault}
use Rattle.py_heap.specs.declared.fault.ValueFault.TheVariants as fault
use Rattle.py_heap.specs.Heap.{Objects, Entries, text_at, list_at, tuple_at, dict_at}
use Rattle.py_heap.specs.Dicts.{entry_at}
use Rattle.py_heap.specs.Units.{Units, charged}
use Rattle.py_compare.specs.Outcomes.{then_by}

-- whether two things are equal, with the units left after it was found out
abbrev pub Verdict : Type 0
Verdict = Result (Bool × Units) ValueFault

-- the number that a value is: True is 1 and False is 0
abbrev pub number_of : Value → Option ℤ
number_of (v.Int n) = Some n
number_of (v.Bool true) = Some (pos 1)
number_of (v.Bool false) = Some (pos 0)
number_of other = None

abbrev is_number_by : ℤ → Option ℤ → Bool
is_number_by n None = false
is_number_by n (Some m) = int_eq n m

abbrev pub is_number : ℤ → Value → Bool
is_number n x = is_number_by n (number_of x)

abbrev pub is_nil : Value → Bool
is_nil v.Nil = true
is_nil other = false

abbrev pub is_text : Objects → List ℕ → Value → Bool
is_text h s (v.Text id) = bytes_eq s (text_at h id.0)
is_text h s other = false

abbrev pub is_func : ℕ → Value → Bool
is_func n (v.Func id) = nat_eq n id.0
is_func n other = false

abbrev pub is_object : ℕ → Value → Bool
is_object n (v.Object id) = nat_eq n id.0
is_object n other = false

-- the place of a built-in function in their list
abbrev pub builtin_place : Builtin → ℕ
builtin_place b.Len = 0
builtin_place b.Range = 1
builtin_place b.Str = 2
builtin_place b.Int = 3
builtin_place b.Bool = 4
builtin_place b.List = 5
builtin_place b.Tuple = 6
builtin_place b.Dict = 7
builtin_place b.Sorted = 8
builtin_place b.Enumerate = 9
builtin_place b.Zip = 10
builtin_place b.Print = 11

abbrev pub is_builtin : Builtin → Value → Bool
is_builtin one (v.Builtin other) = nat_eq (builtin_place one) (builtin_place other)
is_builtin one other = false

-- equality of values in which no others stand: numbers and texts by content, functions and objects each to itself alone
abbrev pub flat_equal : Objects → Value → Value → Bool
flat_equal h v.Nil y = is_nil y
flat_equal h (v.Bool true) y = is_number (pos 1) y
flat_equal h (v.Bool false) y = is_number (pos 0) y
flat_equal h (v.Int n) y = is_number n y
flat_equal h (v.Text id) y = is_text h (text_at h id.0) y
flat_equal h (v.Func id) y = is_func id.0 y
flat_equal h (v.Builtin one) y = is_builtin one y
flat_equal h (v.Object id) y = is_object id.0 y
flat_equal h (v.List id) y = false
flat_equal h (v.Tuple id) y = false
flat_equal h (v.Dict id) y = false

-- items compared in turn, up to the first that differ
abbrev pub equal_items : (Units → Value → Value → Verdict) → Units → List Value → List Value → Verdict
equal_items f u [] [] = Ok (true, u)
equal_items f u [] (y ∷ ys) = Ok (false, u)
equal_items f u (x ∷ xs) [] = Ok (false, u)
equal_items f u (x ∷ xs) (y ∷ ys) =
    then_by (f u x y) (λ same. if same.0 then equal_items f same.1 xs ys else Ok (false, same.1))

-- lists of different lengths aren't looked into
abbrev pub equal_lists : (Units → Value → Value → Verdict) → Units → List Value → List Value → Verdict
equal_lists f u xs ys = if length xs == length ys then equal_items f u xs ys else Ok (false, u)

abbrev pub pair_by : (Units → Value → Value → Verdict) → (Units → Verdict) → Units → Value → Option Value → Verdict
pair_by f rest u x None = Ok (false, u)
pair_by f rest u x (Some y) = then_by (f u x y) (λ same. if same.0 then rest same.1 else Ok (false, same.1))

-- the item of each entry of a dict, and what another dict has under its key
abbrev facing : Entries → Key × Entry → Value × Option Value
facing other e = (e.1.item, option_map (λ f. f.item) (entry_at other e.0))

abbrev pub facing_items : Entries → Entries → List (Value × Option Value)
facing_items es other = map (facing other) es

-- those compared in turn, up to the first that the other dict lacks or that differ
abbrev pub equal_pairs : (Units → Value → Value → Verdict) → Units → List (Value × Option Value) → Verdict
equal_pairs f u [] = Ok (true, u)
equal_pairs f u (p ∷ ps) = pair_by f (λ left. equal_pairs f left ps) u p.0 p.1

abbrev pub equal_dicts : (Units → Value → Value → Verdict) → Units → Entries → Entries → Verdict
equal_dicts f u es other = if length es == length other then equal_pairs f u (facing_items es other) else Ok (false, u)

abbrev against_list : (Units → List Value → List Value → Verdict) → Objects → Units → List Value → Value → Verdict
against_list items h u xs (v.List id) = items u xs (list_at h id.0)
against_list items h u xs other = Ok (false, u)

abbrev against_tuple : (Units → List Value → List Value → Verdict) → Objects → Units → List Value → Value → Verdict
against_tuple items h u xs (v.Tuple id) = items u xs (tuple_at h id.0)
against_tuple items h u xs other = Ok (false, u)

abbrev against_dict : (Units → Entries → Entries → Verdict) → Objects → Units → Entries → Value → Verdict
against_dict entries h u es (v.Dict id) = entries u es (dict_at h id.0)
against_dict entries h u es other = Ok (false, u)

-- two values, where it is said how items and entries inside them compare
abbrev pub equal_by : (Units → List Value → List Value → Verdict) → (Units → Entries → Entries → Verdict) → Objects →
    Units → Value → Value → Verdict
equal_by items entries h u (v.List id) y = against_list items h u (list_at h id.0) y
equal_by items entries h u (v.Tuple id) y = against_tuple items h u (tuple_at h id.0) y
equal_by items entries h u (v.Dict id) y = against_dict entries h u (dict_at h id.0) y
equal_by items entries h u v.Nil y = Ok (flat_equal h v.Nil y, u)
equal_by items entries h u (v.Bool flag) y = Ok (flat_equal h (v.Bool flag) y, u)
equal_by items entries h u (v.Int n) y = Ok (flat_equal h (v.Int n) y, u)
equal_by items entries h u (v.Text id) y = Ok (flat_equal h (v.Text id) y, u)
equal_by items entries h u (v.Func id) y = Ok (flat_equal h (v.Func id) y, u)
equal_by items entries h u (v.Builtin one) y = Ok (flat_equal h (v.Builtin one) y, u)
equal_by items entries h u (v.Object id) y = Ok (flat_equal h (v.Object id) y, u)

-- whether two values are equal, where so many levels may still be looked into. Each pair of values met costs one unit;
-- past the last level it is Deep.
unfoldable pub equal_at : ℕ → Objects → Units → Value → Value → Verdict
equal_at zero h u x y =
    then_by (charged u 1) (λ left. equal_by (λ u xs ys. Err fault.Deep) (λ u es other. Err fault.Deep) h left x y)
equal_at (suc levels) h u x y =
    then_by (charged u 1) (λ left.
    equal_by (equal_lists (equal_at levels h)) (equal_dicts (equal_at levels h)) h left x y)

-- the same of what stands inside two values of one kind
abbrev pub items_at : ℕ → Objects → Units → List Value → List Value → Verdict
items_at zero h u xs ys = Err fault.Deep
items_at (suc levels) h u xs ys = equal_lists (equal_at levels h) u xs ys

abbrev pub entries_at : ℕ → Objects → Units → Entries → Entries → Verdict
entries_at zero h u es other = Err fault.Deep
entries_at (suc levels) h u es other = equal_dicts (equal_at levels h) u es other

abbrev pub equal_of : Objects → Units → Value → Value → Verdict
equal_of h u x y = equal_at VALUE_DEPTH_LIMIT h u x y

-- the place of the first item equal to a value, if there is one: the item stands at the left
abbrev pub place_from : ℕ → Objects → Units → List Value → Value → Result (Option ℕ × Units) ValueFault
place_from n h u [] y = Ok (None, u)
place_from n h u (x ∷ xs) y =
    then_by (equal_of h u x y) (λ same. if same.0 then Ok (Some n, same.1) else place_from (suc n) h same.1 xs y)
