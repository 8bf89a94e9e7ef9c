-- Showing by its levels.
use Rattle.std.proofs.Common.{◌≡◌, ◌≢◌, ◌∙◌, ℕ, zero, suc, Ok, Err, refl}
use Rattle.std.specs.Prelude.{Bool}
use Rattle.py_heap.specs.declared.value.Value.{Value}
use Rattle.py_heap.specs.declared.fault.ValueFault.{ValueFault}
use Rattle.py_heap.specs.declared.fault.ValueFault.TheVariants as fault
use Rattle.py_heap.specs.Heap.{Objects}
use Rattle.py_heap.specs.Units.{Units, charged}
use Rattle.py_compare.specs.Outcomes.{then_by}
use Rattle.py_compare.specs.Growing.{Growth, grown}
use Rattle.py_compare.specs.Showing.{Shown, show_at, shown_by, items_shown, entries_shown}

show_at-is : (levels : ℕ) (h : Objects) (q : Bool) (t : Growth) (u : Units) (x : Value) → show_at grown levels h q t u x ≡ then_by (charged u 1) (λ left. shown_by grown (items_shown grown levels h) (entries_shown grown levels h) h q t left x)
unfolding show_at
show_at-is zero h q t u x = refl
show_at-is (suc levels) h q t u x = refl

pub show_go : (levels : ℕ) (h : Objects) (q : Bool) (t : Growth) (u left : Units) (x : Value) (o : Shown Growth) → charged u 1 ≡ Ok left → shown_by grown (items_shown grown levels h) (entries_shown grown levels h) h q t left x ≡ o → show_at grown levels h q t u x ≡ o
show_go levels h q t u left x o e g = show_at-is levels h q t u x ∙ rw e g

pub show_unpaid : (levels : ℕ) (h : Objects) (q : Bool) (t : Growth) (u : Units) (x : Value) (e : ValueFault) → charged u 1 ≡ Err e → e ≢ fault.Memory → show_at grown levels h q t u x ≡ Err e
show_unpaid levels h q t u x e s n = show_at-is levels h q t u x ∙ rw s refl

pub show_stop : (levels : ℕ) (h : Objects) (q : Bool) (t : Growth) (u left : Units) (x : Value) (e : ValueFault) → charged u 1 ≡ Ok left → (e ≢ fault.Memory → shown_by grown (items_shown grown levels h) (entries_shown grown levels h) h q t left x ≡ Err e)
    → e ≢ fault.Memory → show_at grown levels h q t u x ≡ Err e
show_stop levels h q t u left x e p s n = show_at-is levels h q t u x ∙ rw p (s n)

pub ruleset shows = (show_go, show_unpaid, show_stop)
