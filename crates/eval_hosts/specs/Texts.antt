-- Texts that only grow.
use Rattle.std.specs.Prelude.{◌≡◌, ℕ, List, ◌++◌}

-- a text with more behind it, maybe
abbrev pub Grown : List ℕ → List ℕ → Type 0
Grown old new = (more : List ℕ) × (new ≡ old ++ more)
