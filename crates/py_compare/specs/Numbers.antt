-- Integers of 64 bits: section 6.7 ("Binary arithmetic operations") of the Python language reference, but for the bound,
-- which is own.
use Rattle.std.specs.Prelude.{◌≡◌, ◌+ℤ◌, ◌*ℤ◌, ◌<ℤ◌, ◌≤ℤ◌, ◌-◌, ◌/◌, ◌%◌, ◌^◌, ℤ, pos, negsuc, ◌==◌, suc, Result, Ok}
use Rattle.std.specs.Prelude.{Err, if◌then◌else◌, nat_lt, unsigned_abs}
use Rattle.std.specs.Int.{div_ceil}
use Rattle.std.proofs.Common.{neg_ℤ}
use Rattle.py_heap.specs.declared.fault.ValueFault.{ValueFault}
use Rattle.py_heap.specs.declared.fault.ValueFault.TheVariants as fault

-- a number that has 64 bits: from -2^63 to 2^63 - 1
unfoldable pub fitting : ℤ → Result ℤ ValueFault
fitting (pos n) = if nat_lt n (2 ^ 63) then Ok (pos n) else Err fault.Overflow
fitting (negsuc n) = if nat_lt n (2 ^ 63) then Ok (negsuc n) else Err fault.Overflow

-- the quotient, rounded down
abbrev pub floor_div : ℤ → ℤ → ℤ
floor_div (pos m) (pos n) = pos (m / n)
floor_div (pos m) (negsuc n) = neg_ℤ (pos (div_ceil m (suc n)))
floor_div (negsuc m) (pos n) = neg_ℤ (pos (div_ceil (suc m) n))
floor_div (negsuc m) (negsuc n) = pos (suc m / suc n)

-- what is left of the first where the second is taken that many times: it has the sign of the second
abbrev pub floor_rem : ℤ → ℤ → ℤ
floor_rem (pos m) (pos n) = pos (m % n)
floor_rem (pos m) (negsuc n) = neg_ℤ (pos ((suc n - m % suc n) % suc n))
floor_rem (negsuc m) (pos n) = pos ((n - suc m % n) % n)
floor_rem (negsuc m) (negsuc n) = neg_ℤ (pos (suc m % suc n))

-- what may be left: from 0 on towards the second, which it doesn't reach
abbrev pub IsRest : ℤ → ℤ → Type 0
IsRest (pos n) rest = (pos 0 ≤ℤ rest) × (rest <ℤ pos n)
IsRest (negsuc n) rest = (negsuc n <ℤ rest) × (rest ≤ℤ pos 0)

-- the law that ties the two together, in that section's words: x == (x//y)*y + (x%y)
pub record IsDivision (a b quotient rest : ℤ) : Type 0 where
  pub whole : a ≡ (quotient *ℤ b) +ℤ rest
  pub near : IsRest b rest

abbrev pub divided : ℤ → ℤ → Result ℤ ValueFault
divided a b = if unsigned_abs b == 0 then Err fault.Zero else fitting (floor_div a b)

abbrev pub remainder : ℤ → ℤ → Result ℤ ValueFault
remainder a b = if unsigned_abs b == 0 then Err fault.Zero else fitting (floor_rem a b)
