-- Lengths told before a text is made.
use Rattle.std.specs.Prelude.{ℕ, ◌-◌, ◌^◌, min}

-- a length in 64 bits, the greatest number where it is more
abbrev pub saturated : ℕ → ℕ
saturated length = min length (2 ^ 64 - 1)
