-- A list of the keys or of the items of a dict.
use Rattle.std.proofs.Common.{◌≡◌, List, length, map, Ok, Err, Result, refl}
use Rattle.std.proofs.lemmas.List.{length-map}
use Rattle.py_heap.specs.declared.value.Value.{Value}
use Rattle.py_heap.specs.declared.fault.ValueFault.{ValueFault}
use Rattle.py_heap.specs.declared.key.Key.{Key}
use Rattle.py_heap.specs.declared.dict.Entry.{Entry}
use Rattle.scons_base.specs.declared.limits.TheConstants.{LIST_LIMIT}
use Rattle.py_heap.specs.Units.{Units, room}
use Rattle.py_heap.specs.Heap.{Objects, Entries, keys_of, items_in, with_list}
use Rattle.py_heap.specs.Given.{next_list}
use Rattle.py_compare.specs.Outcomes.{new_list}

pub listed_room : (f : Key × Entry → Value) (u : Units) (es : Entries) (r : Result Units ValueFault) → room LIST_LIMIT u (length es) ≡ r → room LIST_LIMIT u (length (map f es)) ≡ r
listed_room f u es r h = rw length-map h

pub keys_unpaid : (h : Objects) (u : Units) (es : Entries) (e : ValueFault) → room LIST_LIMIT u (length es) ≡ Err e → new_list h u (keys_of es) ≡ Err e
keys_unpaid h u es e r = rw (listed_room (λ e. e.1.key) u es (Err e) r) refl

pub keys_made : (h new : Objects) (u left : Units) (es : Entries) (made : List Value) (x : Value) → room LIST_LIMIT u (length es) ≡ Ok left → made ≡ keys_of es → x ≡ next_list h → new ≡ with_list h made
    → new_list h u (keys_of es) ≡ Ok (x, new, left)
keys_made h new u left es made x r m v n = rw (listed_room (λ e. e.1.key) u es (Ok left) r, v, n, m) refl

pub items_unpaid : (h : Objects) (u : Units) (es : Entries) (e : ValueFault) → room LIST_LIMIT u (length es) ≡ Err e → new_list h u (items_in es) ≡ Err e
items_unpaid h u es e r = rw (listed_room (λ e. e.1.item) u es (Err e) r) refl

pub items_made : (h new : Objects) (u left : Units) (es : Entries) (made : List Value) (x : Value) → room LIST_LIMIT u (length es) ≡ Ok left → made ≡ items_in es → x ≡ next_list h → new ≡ with_list h made
    → new_list h u (items_in es) ≡ Ok (x, new, left)
items_made h new u left es made x r m v n = rw (listed_room (λ e. e.1.item) u es (Ok left) r, v, n, m) refl

pub ruleset listed = (keys_unpaid, keys_made, items_unpaid, items_made)
