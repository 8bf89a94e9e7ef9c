-- What is shown is no longer than a text may be.
use Rattle.std.proofs.Common.{arith, ◌≡◌, ◌∙◌, ◌<◌, ◌≤◌, ◌^◌, ℕ, Ok, Err, ap}
use Rattle.py_heap.specs.declared.fault.ValueFault.TheVariants as fault
use Rattle.scons_base.specs.declared.limits.TheConstants.{TEXT_LIMIT}
use Rattle.py_heap.specs.Units.{limited}
use Rattle.py_heap.proofs.Rooms.{limited_within, limited_passes}

pub shown_within : {X : Type 0} (n : ℕ) (x y : X) → n ≤ TEXT_LIMIT → x ≡ y → limited TEXT_LIMIT n x ≡ Ok y
shown_within n x y l e = limited_within TEXT_LIMIT n x l ∙ ap Ok e

pub shown_passes : {X : Type 0} (n : ℕ) (x : X) → TEXT_LIMIT < n → n < 2 ^ 64 → limited TEXT_LIMIT n x ≡ Err (fault.TooBig n)
shown_passes n x l fits = limited_passes TEXT_LIMIT n x l ∙ ap (λ m. Err (fault.TooBig m)) (omega arith)

pub ruleset shown_limits = (shown_within, shown_passes)
