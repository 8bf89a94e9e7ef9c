-- Counts of what went wrong.
use Rattle.std.specs.Prelude.{ℕ, ◌+◌, ◌-◌, ◌^◌, ◌≤◌, min}

-- a count that rose by at least one; it stands still at the greatest number of 64 bits
pub record Rose (before now : ℕ) : Type 0 where
  pub later : before ≤ now
  pub more : min (before + 1) (2 ^ 64 - 1) ≤ now
