-- An item that is put where a dict has none, within the limit and past it.
use Rattle.std.proofs.Common.{arith, ◌≡◌, ◌∙◌, ◌≤◌, ℕ, length, Ok, refl}
use Rattle.py_heap.specs.declared.value.Value.{Value}
use Rattle.py_heap.specs.declared.key.Key.{Key}
use Rattle.py_heap.specs.Heap.{Objects, dict_at, with_dict_at}
use Rattle.py_heap.specs.Dicts.{put, length_with}
use Rattle.scons_base.specs.declared.limits.TheConstants.{LIST_LIMIT}
use Rattle.py_heap.specs.Units.{limited, told_length}
use Rattle.py_heap.proofs.Rooms.{limited_within}
use Rattle.py_heap.proofs.Grown.{length-put}
use Rattle.py_operators.proofs.Grown.{put_passes}

pub default_within : (h : Objects) (id : ℕ) (k : Key) (given item : Value) (told : ℕ) (new : Objects) → told ≡ told_length (length_with (dict_at h id) k) → told ≤ LIST_LIMIT
    → new ≡ with_dict_at h id (put (dict_at h id) k given item)
    → limited {X = Value × Objects} LIST_LIMIT (length (put (dict_at h id) k given item)) (item, with_dict_at h id (put (dict_at h id) k given item)) ≡ Ok (item, new)
default_within h id k given item told new t l n =
    let within : length (put (dict_at h id) k given item) ≤ LIST_LIMIT = rw length-put (omega arith) in
    limited_within {X = Value × Objects} LIST_LIMIT _ (item, with_dict_at h id (put (dict_at h id) k given item)) within ∙ rw n refl

pub ruleset default_grown = (default_within, put_passes)
