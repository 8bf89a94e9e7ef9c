-- Places: section 6.3.2 ("Subscriptions") of the Python language reference. What is charged and limited is own.
use Rattle.std.specs.Prelude.{ℕ, ◌-◌, ℤ, pos, negsuc, suc, nat_lt, List, length, Option, Some, None, Result, Ok, Err}
use Rattle.std.specs.Prelude.{if◌then◌else◌, slice_index_or, slice_set}
use Rattle.py_heap.specs.declared.value.Value.{Value}
use Rattle.py_heap.specs.declared.value.Value.TheVariants as v
use Rattle.py_heap.specs.declared.key.Key.{Key}
use Rattle.py_heap.specs.declared.dict.Entry.{Entry}
use Rattle.py_heap.specs.declared.fault.ValueFault.{ValueFault}
use Rattle.py_heap.specs.declared.fault.ValueFault.TheVariants as fault
use Rattle.py_heap.specs.Heap.{Objects, Entries, list_at, dict_at, with_list_at, with_dict_at}
use Rattle.py_heap.specs.Dicts.{key_of, entry_at, put}
use Rattle.scons_base.specs.declared.limits.TheConstants.{LIST_LIMIT}
use Rattle.py_heap.specs.Units.{limited}
use Rattle.py_heap.specs.Values.{kind_of}
use Rattle.py_heap.specs.declared.kind.ValueKind.{ValueKind}
use Rattle.py_compare.specs.Outcomes.{mismatch}

-- the place that an index names in something of a length: from 0 on, or back from the end
abbrev pub place_in : ℤ → ℕ → Option ℕ
place_in (pos n) len = if nat_lt n len then Some n else None
place_in (negsuc n) len = if nat_lt n len then Some (len - suc n) else None

-- what stands there, or the index and the length
abbrev item_by : ℤ → List Value → Option ℕ → Result Value ValueFault
item_by i items None = Err (fault.Index i (length items))
item_by i items (Some n) = Ok (slice_index_or items n v.Nil)

abbrev pub item_in : List Value → ℤ → Result Value ValueFault
item_in items i = item_by i items (place_in i (length items))

-- lists and tuples take integers
abbrev pub item_at : List Value → Value → Value → Result Value ValueFault
item_at items a (v.Int i) = item_in items i
item_at items a i = mismatch a i

abbrev keyed_by : Key → Option Entry → Result Value ValueFault
keyed_by k None = Err (fault.Key k)
keyed_by k (Some e) = Ok e.item

abbrev item_under : Entries → ValueKind → Option Key → Result Value ValueFault
item_under entries kind None = Err (fault.KeyKind kind)
item_under entries kind (Some k) = keyed_by k (entry_at entries k)

-- the item under a key, or else that key as the fault
abbrev pub keyed : Objects → Entries → Value → Result Value ValueFault
keyed h entries i = item_under entries (kind_of i) (key_of h i)

-- a heap in which a place of a list has another item
abbrev set_by : Objects → ℕ → ℤ → Value → Option ℕ → Result Objects ValueFault
set_by h id i x None = Err (fault.Index i (length (list_at h id)))
set_by h id i x (Some n) = Ok (with_list_at h id (slice_set (list_at h id) n x))

abbrev pub with_item : Objects → ℕ → ℤ → Value → Result Objects ValueFault
with_item h id i x = set_by h id i x (place_in i (length (list_at h id)))

abbrev set_in_list : Objects → ℕ → Value → Value → Value → Result Objects ValueFault
set_in_list h id a (v.Int i) x = with_item h id i x
set_in_list h id a i x = mismatch a i

-- a heap in which a dict has an item under a key: one more item where it has no such key
abbrev put_by : Objects → ℕ → Value → Value → Option Key → Result Objects ValueFault
put_by h id given x None = Err (fault.KeyKind (kind_of given))
put_by h id given x (Some k) =
    limited LIST_LIMIT (length (put (dict_at h id) k given x)) (with_dict_at h id (put (dict_at h id) k given x))

abbrev pub with_entry : Objects → ℕ → Value → Value → Result Objects ValueFault
with_entry h id i x = put_by h id i x (key_of h i)

-- a place of a list or a key of a dict is set
abbrev pub set_of : Objects → Value → Value → Value → Result Objects ValueFault
set_of h (v.List id) i x = set_in_list h id.0 (v.List id) i x
set_of h (v.Dict id) i x = with_entry h id.0 i x
set_of h v.Nil i x = mismatch v.Nil v.Nil
set_of h (v.Bool b) i x = mismatch (v.Bool b) (v.Bool b)
set_of h (v.Int n) i x = mismatch (v.Int n) (v.Int n)
set_of h (v.Text id) i x = mismatch (v.Text id) (v.Text id)
set_of h (v.Tuple id) i x = mismatch (v.Tuple id) (v.Tuple id)
set_of h (v.Func id) i x = mismatch (v.Func id) (v.Func id)
set_of h (v.Builtin b) i x = mismatch (v.Builtin b) (v.Builtin b)
set_of h (v.Object id) i x = mismatch (v.Object id) (v.Object id)
