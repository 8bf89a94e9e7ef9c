-- The status that a run answers.
use Rattle.std.specs.Prelude.{◌≡◌, ◌≢◌, ◌⊎◌, ℕ, List, []}

-- status 0 with no fault, 2 with some, or 3 for want of memory
abbrev pub HasStatus : {T : Type 0} → ℕ → List T → Type 0
HasStatus status faults = ((status ≡ 0) × (faults ≡ [])) ⊎ ((status ≡ 2) × (faults ≢ [])) ⊎ (status ≡ 3)
