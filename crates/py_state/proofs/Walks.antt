-- Where a character begins in a text.
use Rattle.std.proofs.Common.{arith, ◌≡◌, ◌∙◌, ◌≤◌, ℕ, Bool, true, false, List, None, if◌then◌else◌, length, drop, ap, refl, inl, inr}
use Rattle.std.specs.Prelude.{slice_index, slice_get, option_map, encode_utf8}
use Rattle.std.specs.Fmt.{is_char_start}
use Rattle.std.specs.Str.{IsCharBoundary}
use Rattle.std.proofs.lemmas.Bool.{cases_lt}
use Rattle.std.proofs.lemmas.Bool.Decides.{nat_tests}
use Rattle.std.proofs.lemmas.List.{drop_all}
use Rattle.std.proofs.lemmas.Str.{chars-nil}
use Rattle.py_text.specs.Characters.{char_at}
use Rattle.py_meaning.specs.Loops.{char_from}

starts : (b : ℕ) → is_char_start b ≡ true → 128 ≤ b → 192 ≤ b
starts b e l = grind (arith, nat_tests)

past : (s : List ℕ) (at : ℕ) → length s ≤ at → char_at (drop at s) 0 ≡ None
past s at l = ap (λ r. char_at r 0) (drop_all at s l) ∙ ap (λ cs. option_map encode_utf8 (slice_get cs 0)) chars-nil

none_by : (s : List ℕ) (at : ℕ) (b : Bool) → is_char_start (slice_index s at) ≡ b → (IsCharBoundary s at → ⊥) → (if b then char_at (drop at s) 0 else None) ≡ None
none_by s at false e h = refl
none_by s at true e h = elim (cases_lt at (length s)) [
  | inl l ↦ absurd (h (omega arith, λ k m. starts (slice_index s at) e m))
  | inr l ↦ past s at l
]

-- none begins within a character, or behind the text
pub none_begins : (s : List ℕ) (at : ℕ) → (IsCharBoundary s at → ⊥) → char_from s at ≡ None
none_begins s at h = none_by s at (is_char_start (slice_index s at)) refl h
