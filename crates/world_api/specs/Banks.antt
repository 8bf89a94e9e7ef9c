-- The two banks of a disk: what a read gives, and what a stop may leave.
use Rattle.std.specs.Prelude.{◌≡◌, ℕ, List, ◌+◌, ◌++◌, ◌≤◌, max, length, take, drop}
use Rattle.world_api.specs.declared.disk.Bank.{Bank}

-- the bytes of each bank
abbrev pub Banks : Type 0
Banks = Bank → List ℕ

-- new is old with these bytes at this place
abbrev pub Holds : List ℕ → ℕ → List ℕ → List ℕ → Type 0
Holds old place bytes new = new ≡ take place old ++ bytes ++ drop (place + length bytes) old

-- a write of n bytes that is cut short: any bytes in the range and past the old end, the same elsewhere, and a size
-- from the old one to the greater of it and the end of the range
pub record Torn (place n : ℕ) (old new : List ℕ) : Type 0 where
  pub before : take place new ≡ take place old
  pub after : drop (place + n) new ≡ drop (place + n) old
  pub no_shorter : length old ≤ length new
  pub no_longer : length new ≤ max (length old) (place + n)

-- each new outcome comes by the step from an old one
abbrev pub Follows : (List ℕ → List ℕ → Type 0) → (List ℕ → Type 0) → (List ℕ → Type 0) → Type 0
Follows step old new = (after : List ℕ) → new after → (before : List ℕ) × old before × step before after

-- there is no other outcome
abbrev pub Only : List ℕ → (List ℕ → Type 0) → Type 0
Only bytes outcomes = (outcome : List ℕ) → outcomes outcome → outcome ≡ bytes
