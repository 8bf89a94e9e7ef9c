-- Lists of texts, paid for together.
use Rattle.std.proofs.Common.{arith, ◌≡◌, ◌<◌, ◌≤◌, ◌+◌, ◌^◌, ℕ, List, Ok, Err, refl, ap, length, map}
use Rattle.std.proofs.lemmas.List.{length-map}
use Rattle.py_heap.specs.declared.fault.ValueFault.{ValueFault}
use Rattle.py_heap.specs.declared.fault.ValueFault.TheVariants as fault
use Rattle.scons_base.specs.declared.limits.TheConstants.{LIST_LIMIT}
use Rattle.py_heap.specs.Units.{Units, charged}
use Rattle.py_heap.proofs.Rooms.{limited_within, limited_passes}
use Rattle.py_compare.specs.Iterables.{total_length}
use Rattle.py_methods.specs.Many.{paid_texts}

module _ {X : Type 0} (f : X → List ℕ) (u : Units) (xs : List X) where
  pub texts_pass : LIST_LIMIT < length xs → length xs < 2 ^ 64 → paid_texts u (map f xs) ≡ Err (fault.TooBig (length xs))
  texts_pass l fits = rw (length-map xs f, limited_passes LIST_LIMIT (length xs) (length xs + total_length (map f xs)) l) (ap (λ n. Err (fault.TooBig n)) (omega arith))

  pub texts_unpaid : (n : ℕ) (e : ValueFault) → length xs ≤ LIST_LIMIT → n ≡ length xs + total_length (map f xs) → charged u n ≡ Err e → paid_texts u (map f xs) ≡ Err e
  texts_unpaid n e l s h =
      let c : charged u (length xs + total_length (map f xs)) ≡ Err e = rw s at h in
      rw (length-map xs f, limited_within LIST_LIMIT (length xs) (length xs + total_length (map f xs)) l, c) refl

  pub texts_paid : (n : ℕ) (left : Units) (made : List (List ℕ)) → length xs ≤ LIST_LIMIT → n ≡ length xs + total_length (map f xs) → charged u n ≡ Ok left → made ≡ map f xs → paid_texts u (map f xs) ≡ Ok (made, left)
  texts_paid n left made l s h m =
      let c : charged u (length xs + total_length (map f xs)) ≡ Ok left = rw s at h in
      rw (length-map xs f, limited_within LIST_LIMIT (length xs) (length xs + total_length (map f xs)) l, c, m) refl

pub ruleset many_texts = (texts_pass, texts_unpaid, texts_paid)
