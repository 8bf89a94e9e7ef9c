-- The items of two dicts compared in turn.
use Rattle.std.proofs.Common.{◌≡◌, ◌≢◌, ◌∙◌, ◌+◌, ℕ, List, ◌∷◌, Ok, Err, Option, Some, None, true, false, refl, ap, sym, drop}
use Rattle.std.specs.Prelude.{slice_get}
use Rattle.std.proofs.lemmas.List.{drop_more}
use Rattle.std.proofs.lemmas.Option.{slice_get_within, get_or_from_slice_get}
use Rattle.py_heap.specs.declared.value.Value.{Value}
use Rattle.py_heap.specs.declared.fault.ValueFault.{ValueFault}
use Rattle.py_heap.specs.declared.fault.ValueFault.TheVariants as fault
use Rattle.py_heap.specs.Units.{Units}
use Rattle.py_compare.specs.Equality.{Verdict, equal_pairs}

drop_at_get : {X : Type 0} (ps : List X) (i : ℕ) (p : X) → slice_get ps i ≡ Some p → drop i ps ≡ p ∷ drop (i + 1) ps
drop_at_get ps i p e = drop_more ps i p (slice_get_within ps i p e) ∙ ap (λ x. x ∷ drop (i + 1) ps) (get_or_from_slice_get ps i p p e)

module _ (f : Units → Value → Value → Verdict) (ps : List (Value × Option Value)) (i : ℕ) (u : Units) (o : Verdict) (x : Value) where
  pub lacking : equal_pairs f u (drop i ps) ≡ o → slice_get ps i ≡ Some (x, None) → o ≡ Ok (false, u)
  lacking inv e = sym inv ∙ rw (drop_at_get ps i (x, None) e) refl

  pub faulting : (y : Value) (e : ValueFault) → equal_pairs f u (drop i ps) ≡ o → slice_get ps i ≡ Some (x, Some y) → (e ≢ fault.Memory → f u x y ≡ Err e) → e ≢ fault.Memory → o ≡ Err e
  faulting y e inv s h n = sym inv ∙ rw (drop_at_get ps i (x, Some y) s, h n) refl

  pub differing : (y : Value) (left : Units) → equal_pairs f u (drop i ps) ≡ o → slice_get ps i ≡ Some (x, Some y) → f u x y ≡ Ok (false, left) → o ≡ Ok (false, left)
  differing y left inv s h = sym inv ∙ rw (drop_at_get ps i (x, Some y) s, h) refl

  pub agreeing : (y : Value) (left : Units) → equal_pairs f u (drop i ps) ≡ o → slice_get ps i ≡ Some (x, Some y) → f u x y ≡ Ok (true, left) → equal_pairs f left (drop (i + 1) ps) ≡ o
  agreeing y left inv s h = sym (rw (drop_at_get ps i (x, Some y) s, h) refl) ∙ inv

pub ruleset facing_pairs = (lacking, faulting, differing, agreeing)
