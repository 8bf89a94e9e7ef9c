-- Units: what work costs, own rules of this tool.
use Rattle.std.specs.Prelude.{ℕ, ◌+◌, ◌^◌, ◌-◌, Result, Ok, Err, if◌then◌else◌, nat_le, min}
use Rattle.py_heap.specs.declared.fault.ValueFault.{ValueFault}
use Rattle.py_heap.specs.declared.fault.ValueFault.TheVariants as fault

-- the units that may be used in all, and those that are
pub record Units : Type 0 where
  pub total : ℕ
  pub used : ℕ

-- a charge: it is made before the work, and refused where it would pass the total
unfoldable pub charged : Units → ℕ → Result Units ValueFault
charged u n = if nat_le (u.used + n) u.total then Ok (record { total = u.total; used = u.used + n }) else Err (fault.Budget u.used)

-- a length as a refusal tells it
abbrev pub told_length : ℕ → ℕ
told_length n = min n (2 ^ 64 - 1)

-- something of this length, of which there may be no longer one than the limit: tested before the charge
unfoldable pub room : ℕ → Units → ℕ → Result Units ValueFault
room limit u n = if nat_le n limit then charged u n else Err (fault.TooBig (told_length n))

-- something of this length, of which there may be no longer one than the limit; it costs nothing
unfoldable pub limited : {X : Type 0} → ℕ → ℕ → X → Result X ValueFault
limited limit n x = if nat_le n limit then Ok x else Err (fault.TooBig (told_length n))
