-- The methods of a dict: "Mapping Types" in the Python library reference. `keys`, `values` and `items` give lists (own).
use Rattle.std.specs.Prelude.{ℕ, length, Option, Some, None, Result, Ok, Err}
use Rattle.py_heap.specs.declared.value.Value.{Value}
use Rattle.py_heap.specs.declared.value.Value.TheVariants as v
use Rattle.py_heap.specs.declared.key.Key.{Key}
use Rattle.py_heap.specs.declared.dict.Entry.{Entry}
use Rattle.py_heap.specs.declared.fault.ValueFault.{ValueFault}
use Rattle.py_heap.specs.declared.fault.ValueFault.TheVariants as fault
use Rattle.py_heap.specs.Heap.{Objects, Entries, dict_at, with_dict_at, keys_of, items_in}
use Rattle.py_heap.specs.Dicts.{key_of, entry_at, put, put_all}
use Rattle.scons_base.specs.declared.limits.TheConstants.{LIST_LIMIT}
use Rattle.py_heap.specs.Units.{Units, limited}
use Rattle.py_heap.specs.Values.{kind_of}
use Rattle.py_heap.specs.declared.kind.ValueKind.{ValueKind}
use Rattle.py_compare.specs.Outcomes.{Outcome, then_by, mismatch, new_list}

abbrev item_or : Value → Option Entry → Value
item_or default None = default
item_or default (Some e) = e.item

abbrev get_by : Entries → Value → ValueKind → Option Key → Result Value ValueFault
get_by entries default kind None = Err (fault.KeyKind kind)
get_by entries default kind (Some k) = Ok (item_or default (entry_at entries k))

-- the item under a key, or else another value
abbrev pub get_of : Objects → ℕ → Value → Value → Result Value ValueFault
get_of h id key default = get_by (dict_at h id) default (kind_of key) (key_of h key)

abbrev default_at : Objects → ℕ → Value → Value → Key → Option Entry → Result (Value × Objects) ValueFault
default_at h id key item k (Some e) = Ok (e.item, h)
default_at h id key item k None =
    limited LIST_LIMIT (length (put (dict_at h id) k key item))
    (item, with_dict_at h id (put (dict_at h id) k key item))

abbrev default_by : Objects → ℕ → Value → Value → Option Key → Result (Value × Objects) ValueFault
default_by h id key item None = Err (fault.KeyKind (kind_of key))
default_by h id key item (Some k) = default_at h id key item k (entry_at (dict_at h id) k)

-- the item under a key, which is put there where there is none
abbrev pub setdefault_of : Objects → ℕ → Value → Value → Result (Value × Objects) ValueFault
setdefault_of h id key item = default_by h id key item (key_of h key)

-- the keys and the items in order of insertion
abbrev pub keys_list : Objects → Units → ℕ → Outcome
keys_list h u id = new_list h u (keys_of (dict_at h id))

abbrev pub values_list : Objects → Units → ℕ → Outcome
values_list h u id = new_list h u (items_in (dict_at h id))

-- the dict with the items of another one put under its keys
abbrev merged : Objects → ℕ → Entries → Result (Value × Objects) ValueFault
merged h id entries = limited LIST_LIMIT (length entries) (v.Nil, with_dict_at h id entries)

abbrev pub update_of : Objects → ℕ → Value → Result (Value × Objects) ValueFault
update_of h id (v.Dict other) = merged h id (put_all (dict_at h id) (dict_at h other.0))
update_of h id x = mismatch (v.Dict (record { 0 = id })) x
