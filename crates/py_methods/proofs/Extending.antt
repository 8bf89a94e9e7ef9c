-- Items of a value behind those of a list.
use Rattle.std.proofs.Common.{arith, ◌≡◌, ◌<◌, ◌≤◌, ◌+◌, ◌^◌, ◌++◌, ℕ, List, length, Ok, Err, refl, ap, sym}
use Rattle.py_heap.specs.declared.value.Value.{Value}
use Rattle.py_heap.specs.declared.value.Value.TheVariants as v
use Rattle.py_heap.specs.declared.fault.ValueFault.{ValueFault}
use Rattle.py_heap.specs.declared.fault.ValueFault.TheVariants as fault
use Rattle.py_heap.specs.Heap.{Objects, list_at, with_list_at}
use Rattle.py_heap.specs.Many.{with_texts}
use Rattle.scons_base.specs.declared.limits.TheConstants.{LIST_LIMIT}
use Rattle.py_heap.specs.Units.{Units, charged, told_length}
use Rattle.py_compare.specs.Iterables.{total_length, iterable_texts, iterable_items}
use Rattle.py_methods.specs.Lists.{extended}
use Rattle.py_compare.proofs.Limits.{told_within, told_passes}

module _ (h : Objects) (u : Units) (id : ℕ) (x : Value) (n told : ℕ) where
  pub extend_passes : told ≡ told_length (length (list_at h id) + n) → LIST_LIMIT < told → extended h u id x n ≡ Err (fault.TooBig told)
  extend_passes t l = rw (told_passes (length (list_at h id) + n) told n t l) refl

  pub extend_unpaid : (bytes : ℕ) (e : ValueFault) → told ≡ told_length (length (list_at h id) + n) → told ≤ LIST_LIMIT → bytes ≡ total_length (iterable_texts h n x) → charged u bytes ≡ Err e → extended h u id x n ≡ Err e
  extend_unpaid bytes e t l b c =
      let paid : charged u (total_length (iterable_texts h n x)) ≡ Err e = rw b at c in
      rw (told_within (length (list_at h id) + n) told n n t l refl, paid) refl

  pub extend_made : (bytes : ℕ) (left : Units) (new : Objects) (texts : List (List ℕ)) (items : List Value) → told ≡ told_length (length (list_at h id) + n) → told ≤ LIST_LIMIT → bytes ≡ total_length (iterable_texts h n x)
      → charged u bytes ≡ Ok left → texts ≡ iterable_texts h n x → items ≡ iterable_items h (length h.texts) n x → new ≡ with_list_at (with_texts h texts) id (list_at h id ++ items) → extended h u id x n ≡ Ok (v.Nil, new, left)
  extend_made bytes left new texts items t l b c s i w =
      let paid : charged u (total_length (iterable_texts h n x)) ≡ Ok left = rw b at c in
      rw (told_within (length (list_at h id) + n) told n n t l refl, paid, w, s, i) refl

pub ruleset extending = (extend_passes, extend_unpaid, extend_made)
