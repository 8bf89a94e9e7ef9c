-- What a heap is given from outside scripts: new things within the limits, which cost no units.
use Rattle.std.specs.Prelude.{ℕ, List, [], ◌∷◌, Option, Some, None, Result, Err, length}
use Rattle.py_heap.specs.declared.value.Value.{Value}
use Rattle.py_heap.specs.declared.value.Value.TheVariants as v
use Rattle.py_heap.specs.declared.fault.ValueFault.{ValueFault}
use Rattle.py_heap.specs.declared.fault.ValueFault.TheVariants as fault
use Rattle.py_heap.specs.declared.key.Key.{Key}
use Rattle.py_heap.specs.Heap.{Objects, Entries, with_text, with_list, with_tuple, with_dict, with_shown}
use Rattle.py_heap.specs.declared.kind.ValueKind.{ValueKind}
use Rattle.py_heap.specs.declared.kind.ValueKind.TheVariants as kind
use Rattle.py_heap.specs.Values.{kind_of}
use Rattle.py_heap.specs.Dicts.{key_of, put}
use Rattle.scons_base.specs.declared.limits.TheConstants.{TEXT_LIMIT, LIST_LIMIT}
use Rattle.py_heap.specs.Units.{limited}

-- the number of the next thing of each kind
abbrev pub next_text : Objects → Value
next_text h = v.Text (record { 0 = length h.texts })

abbrev pub next_list : Objects → Value
next_list h = v.List (record { 0 = length h.lists })

abbrev pub next_tuple : Objects → Value
next_tuple h = v.Tuple (record { 0 = length h.tuples })

abbrev pub next_dict : Objects → Value
next_dict h = v.Dict (record { 0 = length h.dicts })

abbrev pub given_text : Objects → List ℕ → Result (Value × Objects) ValueFault
given_text h s = limited TEXT_LIMIT (length s) (next_text h, with_text h s)

abbrev pub given_list : Objects → List Value → Result (Value × Objects) ValueFault
given_list h items = limited LIST_LIMIT (length items) (next_list h, with_list h items)

abbrev pub given_tuple : Objects → List Value → Result (Value × Objects) ValueFault
given_tuple h items = limited LIST_LIMIT (length items) (next_tuple h, with_tuple h items)

abbrev put_by : Objects → Entries → Option Key → Value × Value → Option Entries
put_by h entries None pair = None
put_by h entries (Some k) pair = Some (put entries k pair.0 pair.1)

abbrev and_then : (Entries → Option Entries) → Option Entries → Option Entries
and_then f None = None
and_then f (Some entries) = f entries

-- the entries after pairs are put one after another; none where a value can't be a key
abbrev pub with_pairs : Objects → Entries → List (Value × Value) → Option Entries
with_pairs h entries [] = Some entries
with_pairs h entries (p ∷ ps) = and_then (λ more. with_pairs h more ps) (put_by h entries (key_of h p.0) p)

abbrev kind_unless : Option Key → ValueKind → ValueKind → ValueKind
kind_unless None here later = here
kind_unless (Some k) here later = later

-- the kind of the first value that stands as a key and can't be one
abbrev pub unkeyed : Objects → List (Value × Value) → ValueKind
unkeyed h [] = kind.Nil
unkeyed h (p ∷ ps) = kind_unless (key_of h p.0) (kind_of p.0) (unkeyed h ps)

abbrev dict_by : Objects → List (Value × Value) → Option Entries → Result (Value × Objects) ValueFault
dict_by h pairs None = Err (fault.KeyKind (unkeyed h pairs))
dict_by h pairs (Some entries) = limited LIST_LIMIT (length entries) (next_dict h, with_dict h entries)

abbrev pub given_dict : Objects → List (Value × Value) → Result (Value × Objects) ValueFault
given_dict h pairs = dict_by h pairs (with_pairs h [] pairs)

-- an object shows by the last text given for it
abbrev pub given_object : Objects → ℕ → List ℕ → Result (Value × Objects) ValueFault
given_object h id shown = limited TEXT_LIMIT (length shown) (v.Object (record { 0 = id }), with_shown h id shown)
