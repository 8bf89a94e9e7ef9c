-- What is within its limit by a length told in 64 bits, and what isn't.
use Rattle.std.proofs.Common.{arith, ◌≡◌, ◌∙◌, ◌<◌, ◌≤◌, ◌^◌, ℕ, Ok, Err, ap, sym}
use Rattle.py_heap.specs.declared.fault.ValueFault.TheVariants as fault
use Rattle.scons_base.specs.declared.limits.TheConstants.{LIST_LIMIT}
use Rattle.py_heap.specs.Units.{limited, told_length}
use Rattle.py_heap.proofs.Rooms.{limited_within, limited_passes}

pub told_within : {X : Type 0} (n told : ℕ) (x y : X) → told ≡ told_length n → told ≤ LIST_LIMIT → x ≡ y → limited LIST_LIMIT n x ≡ Ok y
told_within n told x y t l e =
    let within : n ≤ LIST_LIMIT = omega arith in
    limited_within LIST_LIMIT n x within ∙ ap Ok e

pub told_passes : {X : Type 0} (n told : ℕ) (x : X) → told ≡ told_length n → LIST_LIMIT < told → limited LIST_LIMIT n x ≡ Err (fault.TooBig told)
told_passes n told x t l =
    let passes : LIST_LIMIT < n = omega arith in
    limited_passes LIST_LIMIT n x passes ∙ ap (λ m. Err (fault.TooBig m)) (sym t)

pub exact_within : {X : Type 0} (n : ℕ) (x y : X) → n ≤ LIST_LIMIT → x ≡ y → limited LIST_LIMIT n x ≡ Ok y
exact_within n x y l e = limited_within LIST_LIMIT n x l ∙ ap Ok e

pub exact_passes : {X : Type 0} (n : ℕ) (x : X) → LIST_LIMIT < n → n < 2 ^ 64 → limited LIST_LIMIT n x ≡ Err (fault.TooBig n)
exact_passes n x l fits = limited_passes LIST_LIMIT n x l ∙ ap (λ m. Err (fault.TooBig m)) (omega arith)

pub ruleset limits = (told_within, told_passes)

pub ruleset exact_limits = (exact_within, exact_passes)
