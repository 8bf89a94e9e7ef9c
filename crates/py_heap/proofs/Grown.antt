-- The length of a dict in which an item is put, or those of another one.
use Rattle.std.proofs.Common.{arith, ◌≡◌, ◌≤◌, ◌+◌, Bool, true, false, [], ◌∷◌, length, Some, refl}
use Rattle.std.specs.Prelude.{if◌then◌else◌, is_some}
use Rattle.std.specs.Map.{lookup}
use Rattle.indexmap.specs.IndexMap.{insert_entry}
use Rattle.py_heap.specs.declared.value.Value.{Value}
use Rattle.py_heap.specs.declared.key.Key.{Key}
use Rattle.py_heap.specs.declared.dict.Entry.{Entry}
use Rattle.py_heap.specs.Heap.{Entries}
use Rattle.py_heap.specs.Keys.{key_eq}
use Rattle.py_heap.specs.Dicts.{entry_at, put, length_with, put_all}

length-insert_entry : (es : Entries) (k : Key) (x : Entry) → length (insert_entry key_eq es k x) ≡ length es + (if is_some (lookup (key_eq k) es) then 0 else 1)
length-insert_entry [] k x = refl
length-insert_entry (e ∷ es) k x = by (key_eq k e.0) (length-insert_entry es k x)
  where
    by : (b : Bool) → length (insert_entry key_eq es k x) ≡ length es + (if is_some (lookup (key_eq k) es) then 0 else 1)
        → length (if b then (e.0, x) ∷ es else e ∷ insert_entry key_eq es k x) ≡ length (e ∷ es) + (if is_some (if b then Some e.1 else lookup (key_eq k) es) then 0 else 1)
    by true h = omega arith
    by false h = omega arith

pub length-put : (es : Entries) (k : Key) (given item : Value) → length (put es k given item) ≡ length_with es k
length-put es k given item = length-insert_entry es k _

length_with-few : (es : Entries) (k : Key) → length_with es k ≤ length es + 1
length_with-few es k = by (is_some (entry_at es k))
  where
    by : (b : Bool) → length es + (if b then 0 else 1) ≤ length es + 1
    by true = omega arith
    by false = omega arith

pub length-put_all : (es more : Entries) → length (put_all es more) ≤ length es + length more
length-put_all es [] = omega arith
length-put_all es (e ∷ more) =
    let one : length (put es e.0 e.1.key e.1.item) ≤ length es + 1 = rw (length-put es e.0 e.1.key e.1.item) (length_with-few es e.0) in
    let rest = length-put_all (put es e.0 e.1.key e.1.item) more in
    omega arith
