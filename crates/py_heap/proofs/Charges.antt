-- A charge is made where it fits.
use Rattle.std.proofs.Common.{arith, ◌≡◌, ◌<◌, ◌≤◌, ℕ, ◌+◌, ◌-◌, Ok, Err, refl}
use Rattle.std.proofs.lemmas.Bool.{le-leb, lt-leb}
use Rattle.py_heap.specs.Units.{charged}
use Rattle.py_heap.specs.declared.fault.ValueFault.TheVariants as fault

pub charge_fits : (total used n : ℕ) → used ≤ total → n ≤ total - used → charged (record { total = total; used = used }) n ≡ Ok (record { total = total; used = used + n })
unfolding charged
charge_fits total used n h l = rw (le-leb (used + n) total (omega arith)) refl

pub charge_passes : (total used n : ℕ) → used ≤ total → total - used < n → charged (record { total = total; used = used }) n ≡ Err (fault.Budget used)
unfolding charged
charge_passes total used n h l = rw (lt-leb (used + n) total (omega arith)) refl
