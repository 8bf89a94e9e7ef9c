-- Steps of the loops over words, letters and digits.
use Rattle.std.proofs.Common.{arith, ◌≡◌, ◌<◌, ℕ, ◌+◌, List, [], ◌∷◌, ap, sym, refl, length, drop, get_or, add-one, drop-cons, Some, None, Option, Ok, Err}
use Rattle.std.specs.Prelude.{false, MatchOption}
use Rattle.std.specs.List.{before_first, after_first, position_or_len}
use Rattle.std.specs.Str.{IsUtf8, IsCharBoundary}
use Rattle.std.proofs.Common.{◌≤◌, ◌≢◌}
use Rattle.std.proofs.lemmas.Str.{IsCharBoundary-after_ascii}
use Rattle.std.proofs.lemmas.Bool.Decides.{nat_tests}
use denote.Ref.{Bor}
use Rattle.scons_words.specs.Switches.{short_switch}
use Rattle.scons_words.specs.declared.fault.UsageKind.TheVariants as kind
use Rattle.scons_words.specs.Numbers.{digits_up_to, with_digit}
use Rattle.scons_words.specs.Readings.{read_from, step, is_equals, has_equals, IsParted, undashed, behind_dash}
use Rattle.scons_words.specs.declared.reading.Reading.{Reading}
use Rattle.scons_words.specs.declared.fault.WordsFault.{WordsFault}

-- one more digit
pub digit_more : (limit n m : ℕ) (digits : List ℕ) (i : ℕ) → i < length digits → with_digit limit n (get_or digits i 0) ≡ Some m → digits_up_to limit n (drop i digits) ≡ digits_up_to limit m (drop (i + 1) digits)
digit_more limit n m digits i within e = rw (add-one i, drop-cons digits i 0 within, e) refl

pub digit_none : (limit n : ℕ) (digits : List ℕ) (i : ℕ) → i < length digits → with_digit limit n (get_or digits i 0) ≡ None → digits_up_to limit n (drop i digits) ≡ None
digit_none limit n digits i within e = rw (drop-cons digits i 0 within, e) refl

-- one more word
pub word_more : (r new : Reading) (words : List (List ℕ)) (i : ℕ) (word : List ℕ) → i < length words → word ≡ get_or words i word → step i r word ≡ Ok new → read_from i r (drop i words) ≡ read_from (i + 1) new (drop (i + 1) words)
word_more r new words i word within is e = rw (drop-cons words i word within, sym is, e, add-one i) refl

pub word_fails : (r : Reading) (words : List (List ℕ)) (i : ℕ) (word : List ℕ) (fault : WordsFault) → i < length words → word ≡ get_or words i word → step i r word ≡ Err fault → read_from i r (drop i words) ≡ Err fault
word_fails r words i word fault within is e = rw (drop-cons words i word within, sym is, e) refl

-- texts cut at a mark
pub parted_by : (bs : List ℕ) (r : Option (Bor (List ℕ) × Bor (List ℕ))) → MatchOption r (position_or_len is_equals bs ≡ length bs) (λ x. (position_or_len is_equals bs < length bs) × (x.0.now ≡ before_first is_equals bs) × (x.1.now ≡ after_first is_equals bs)) → MatchOption r (has_equals bs ≡ false) (λ x. IsParted bs x.0.now x.1.now)
parted_by bs None e = grind (arith, nat_tests)
parted_by bs (Some x) h = let within = h.0 in (grind (arith, nat_tests), h.1, h.2)

pub undashed_by : (bs : List ℕ) (r : Option (Bor (List ℕ))) → MatchOption r ((rest : List ℕ) → bs ≢ 45 ∷ rest) (λ x. bs ≡ 45 ∷ x.now) → MatchOption r (undashed bs ≡ None) (λ x. undashed bs ≡ Some x.now)
undashed_by [] None h = refl
undashed_by (b ∷ bs) None h = let other : b ≡ 45 → ⊥ = λ e. h bs (ap (λ x. x ∷ bs) e) in grind (arith, nat_tests)
undashed_by bs (Some x) e = rw e refl

-- a letter of more than one byte is no option
no_switch : (b : ℕ) → 128 ≤ b → short_switch b ≡ None
no_switch b h = grind (arith, nat_tests)

large_letter : (b : ℕ) → (b < 128 → ⊥) → 128 ≤ b
large_letter b h = grind arith

pub stray_letter : (letters : List ℕ) → IsUtf8 letters → 0 < length letters → (IsCharBoundary letters 1 → ⊥) → (r : Reading) → behind_dash r letters ≡ Err kind.Unknown
stray_letter [] text some cut r = absurd (omega arith)
stray_letter (b ∷ bs) text some cut r =
    let large : 128 ≤ b = large_letter b (λ small. cut (IsCharBoundary-after_ascii (b ∷ bs) 0 text some small)) in
    rw (no_switch b large) refl
