-- How a gate at which entries end stands.
use Rattle.std.specs.Prelude.{◌≡◌, ◌≢◌, ◌≤◌, ◌<◌, ℕ, List, length, slice_index}
use Rattle.sign_store.specs.declared.entries.EndGate.{EndGate}
use Rattle.sign_store.specs.declared.entries.EndGate.TheVariants.{Closed, Open, Missing}

-- it is there and isn't open; it is open; the bytes end before it
abbrev pub IsGate : EndGate → ℕ → List ℕ → Type 0
IsGate Closed place bytes = (place < length bytes) × (slice_index bytes place ≢ 1)
IsGate Open place bytes = (place < length bytes) × (slice_index bytes place ≡ 1)
IsGate Missing place bytes = length bytes ≤ place
