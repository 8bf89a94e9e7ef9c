-- Dicts: entries in order of insertion, with keys that differ.
use Rattle.std.specs.Prelude.{ℕ, pos, true, false, if◌then◌else◌, Option, Some, None, is_some, length, ◌+◌, fold}
use Rattle.std.specs.Map.{lookup}
use Rattle.indexmap.specs.IndexMap.{insert_entry}
use Rattle.py_heap.specs.declared.value.Value.{Value}
use Rattle.py_heap.specs.declared.value.Value.TheVariants as v
use Rattle.py_heap.specs.declared.key.Key.{Key}
use Rattle.py_heap.specs.declared.key.Key.TheVariants as key
use Rattle.py_heap.specs.declared.dict.Entry.{Entry}
use Rattle.py_heap.specs.Heap.{Objects, Entries, text_at}
use Rattle.py_heap.specs.Keys.{key_eq}
use Rattle.py_heap.specs.Values.{kind_of}
use Rattle.py_heap.specs.declared.kind.ValueKind.{ValueKind}
use Rattle.py_heap.specs.declared.fault.ValueFault.{ValueFault}
use Rattle.py_heap.specs.declared.fault.ValueFault.TheVariants as fault

-- the key that a value is, if it can be one: texts and integers can, True is 1 and False is 0
abbrev pub key_of : Objects → Value → Option Key
key_of h (v.Int n) = Some (key.Int n)
key_of h (v.Bool true) = Some (key.Int (pos 1))
key_of h (v.Bool false) = Some (key.Int (pos 0))
key_of h (v.Text id) = Some (key.Text (text_at h id.0))
key_of h other = None

abbrev missing_by : ValueKind → Option Key → ValueFault
missing_by kind None = fault.KeyKind kind
missing_by kind (Some k) = fault.Key k

-- the fault that a value isn't found: the key that it is, or else its kind
abbrev pub missing : Objects → Value → ValueFault
missing h x = missing_by (kind_of x) (key_of h x)

-- the entry under a key
abbrev pub entry_at : Entries → Key → Option Entry
entry_at entries k = lookup (key_eq k) entries

abbrev pub given_or : Option Entry → Value → Value
given_or None given = given
given_or (Some e) given = e.key

-- an item put under a key: in the place of the one that the key has, whose first given value stays, or last
abbrev pub put : Entries → Key → Value → Value → Entries
put entries k given item = insert_entry key_eq entries k (record { key = given_or (entry_at entries k) given; item = item })

-- the length of a dict once it has an item under a key
abbrev pub length_with : Entries → Key → ℕ
length_with entries k = length entries + (if is_some (entry_at entries k) then 0 else 1)

-- the entries of another dict put one after another
abbrev pub put_all : Entries → Entries → Entries
put_all entries more = fold (λ done e. put done e.0 e.1.key e.1.item) entries more
