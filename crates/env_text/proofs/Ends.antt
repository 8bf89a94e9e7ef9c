-- Where a reading ends.
use Rattle.std.proofs.Common.{◌≡◌, ◌<◌, ◌≤◌, ◌-◌, ℕ, List, [], ◌∷◌, length, drop, None, refl, arith, ap, ◌+◌}
use Rattle.std.specs.Prelude.{Option}
use Rattle.std.proofs.lemmas.List.{length-drop, drop_all}
use Rattle.env_text.specs.Readings.{Reading, ends, Beginning, takes, refuses, then_rest, beginning_at, reading_behind, reading_from}
use Rattle.env_text.specs.Alone.{name_and_rest}

-- no text ends where something is left
pub not_over : (name : Option (List ℕ)) (text : List ℕ) (at : ℕ) → at < length text → name_and_rest name (reading_from text at) ≡ None
not_over name text at h = by (drop at text) (omega (arith, length-drop at text))
  where
    front : (more : ℕ → Reading) (b : Beginning) → name_and_rest name (then_rest at b more) ≡ None
    front more (takes p skipped) = refl
    front more refuses = refl

    by : (rest : List ℕ) → 0 < length rest → name_and_rest name (reading_behind 0 at rest) ≡ None
    by [] l = absurd (omega arith)
    by (b ∷ bytes) l = front (λ skipped. reading_behind skipped (at + 1) bytes) (beginning_at b bytes)

pub over : (text : List ℕ) (at : ℕ) → length text ≤ at → reading_from text at ≡ ends
over text at h = ap (reading_behind 0 at) (drop_all at text h)
