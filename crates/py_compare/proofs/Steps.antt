-- Equality by its levels and turns.
use Rattle.std.proofs.Common.{◌≡◌, ◌≢◌, ◌∙◌, ℕ, zero, suc, Ok, Err, refl}
use Rattle.py_heap.specs.declared.value.Value.{Value}
use Rattle.py_heap.specs.declared.fault.ValueFault.{ValueFault}
use Rattle.py_heap.specs.declared.fault.ValueFault.TheVariants as fault
use Rattle.py_heap.specs.Heap.{Objects}
use Rattle.py_heap.specs.Units.{Units, charged}
use Rattle.py_compare.specs.Outcomes.{then_by}
use Rattle.py_compare.specs.Equality.{Verdict, equal_at, equal_by, items_at, entries_at}

pub equal_at-is : (levels : ℕ) (h : Objects) (u : Units) (x y : Value) → equal_at levels h u x y ≡ then_by (charged u 1) (λ left. equal_by (items_at levels h) (entries_at levels h) h left x y)
unfolding equal_at
equal_at-is zero h u x y = refl
equal_at-is (suc levels) h u x y = refl

pub equal_go : (levels : ℕ) (h : Objects) (u left : Units) (x y : Value) (o : Verdict) → charged u 1 ≡ Ok left → equal_by (items_at levels h) (entries_at levels h) h left x y ≡ o → equal_at levels h u x y ≡ o
equal_go levels h u left x y o e g = equal_at-is levels h u x y ∙ rw e g

pub equal_unpaid : (levels : ℕ) (h : Objects) (u : Units) (x y : Value) (e : ValueFault) → charged u 1 ≡ Err e → e ≢ fault.Memory → equal_at levels h u x y ≡ Err e
equal_unpaid levels h u x y e s n = equal_at-is levels h u x y ∙ rw s refl

pub equal_stop : (levels : ℕ) (h : Objects) (u left : Units) (x y : Value) (e : ValueFault) → charged u 1 ≡ Ok left → (e ≢ fault.Memory → equal_by (items_at levels h) (entries_at levels h) h left x y ≡ Err e)
    → e ≢ fault.Memory → equal_at levels h u x y ≡ Err e
equal_stop levels h u left x y e p s n = equal_at-is levels h u x y ∙ rw p (s n)

pub ruleset steps = (equal_go, equal_unpaid, equal_stop)
