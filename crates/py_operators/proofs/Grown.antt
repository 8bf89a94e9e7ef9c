-- The length of a dict in which an item is put.
use Rattle.std.proofs.Common.{arith, ◌≡◌, ◌∙◌, ◌<◌, ◌≤◌, ℕ, length, Ok, Err, ap, sym}
use Rattle.py_heap.specs.declared.value.Value.{Value}
use Rattle.py_heap.specs.declared.key.Key.{Key}
use Rattle.py_heap.specs.declared.fault.ValueFault.TheVariants as fault
use Rattle.py_heap.specs.Heap.{Objects, Entries, dict_at, with_dict_at}
use Rattle.py_heap.specs.Dicts.{put, length_with}
use Rattle.scons_base.specs.declared.limits.TheConstants.{LIST_LIMIT}
use Rattle.py_heap.specs.Units.{limited, told_length}
use Rattle.py_heap.proofs.Rooms.{limited_within, limited_passes}
use Rattle.py_heap.proofs.Grown.{length-put}

-- what is within the limit by its told length, and what isn't
pub put_within : (h : Objects) (id : ℕ) (k : Key) (given item : Value) (told : ℕ) (new : Objects) → told ≡ told_length (length_with (dict_at h id) k) → told ≤ LIST_LIMIT
    → new ≡ with_dict_at h id (put (dict_at h id) k given item)
    → limited LIST_LIMIT (length (put (dict_at h id) k given item)) (with_dict_at h id (put (dict_at h id) k given item)) ≡ Ok new
put_within h id k given item told new t l n =
    let within : length (put (dict_at h id) k given item) ≤ LIST_LIMIT = rw length-put (omega arith) in
    limited_within LIST_LIMIT _ _ within ∙ ap Ok (sym n)

pub put_passes : {X : Type 0} (es : Entries) (k : Key) (given item : Value) (told : ℕ) (x : X) → told ≡ told_length (length_with es k) → LIST_LIMIT < told
    → limited LIST_LIMIT (length (put es k given item)) x ≡ Err (fault.TooBig told)
put_passes es k given item told x t l =
    let passes : LIST_LIMIT < length (put es k given item) = rw length-put (omega arith) in
    limited_passes LIST_LIMIT _ x passes ∙ ap (λ n. Err (fault.TooBig n)) (ap told_length (length-put es k given item) ∙ sym t)

pub ruleset grown = (put_within, put_passes)
