-- A part ends where a character does.
use Rattle.std.proofs.Common.{arith, ◌≡◌, ◌≢◌, ◌+◌, ◌<◌, ◌≤◌, ◌∷◌, ◌==◌, [], ℕ, zero, suc, Bool, true, false, not, cond, List, Option, None, Some, length, get_or, refl, sym, ap, ◌∙◌, subst, ne_eqb, inl, inr, add_comm, eqb-true}
use borrow.Author.Tests.{ltb-true}
use Rattle.std.specs.List.{prefix_len, position_or_len}
use Rattle.std.specs.Str.{IsUtf8, IsCharBoundary}
use Rattle.std.proofs.lemmas.Bool.{cases_lt}
use Rattle.std.proofs.lemmas.Bool.Decides.{nat_tests}
use Rattle.std.proofs.lemmas.List.Sums.{prefix_len-le-length, prefix_len_stops}
use Rattle.std.proofs.lemmas.Str.{IsCharBoundary-end, IsCharBoundary-before_ascii, IsCharBoundary-after_ascii}
use Rattle.env_text.specs.Bytes.{is_plain, is_name_first, goes_on, dotted_len}
use Rattle.env_text.specs.Parts.{PlainPart}
use Rattle.env_text.specs.Readings.{Beginning, takes, refuses, takes_or_refuses, up_to_brace, behind_dollar, braced, bare}
use Rattle.env_text.specs.Views.{beginning_of, EndsAtBoundary}
use Rattle.env_text.specs.declared.reader.Front.{Front}
use Rattle.env_text.specs.declared.reader.Front.TheVariants as front

-- a run that only an ASCII byte stops ends at a boundary
run_boundary : (p : ℕ → Bool) (bs : List ℕ) → ((c : ℕ) → p c ≡ false → c < 128) → IsCharBoundary bs (prefix_len p bs)
run_boundary p bs ascii =
    elim (cases_lt (prefix_len p bs) (length bs)) [
      | inl within ↦ IsCharBoundary-before_ascii bs _ within (ascii _ (prefix_len_stops p bs 0 within))
      | inr past ↦ subst (IsCharBoundary bs) (omega (arith, prefix_len-le-length p bs)) (IsCharBoundary-end bs)
    ]

plain_with : (t : Bool) (bs : List ℕ) (n : ℕ) → t ≡ true → IsCharBoundary bs (cond t (1 + n) 0) → IsCharBoundary bs (n + 1)
plain_with true bs n is h = rw (add_comm n 1) h
plain_with false bs n is h = cc

plain_by : (b : ℕ) (bytes : List ℕ) → is_plain b ≡ true → IsCharBoundary (b ∷ bytes) (prefix_len is_plain bytes + 1)
plain_by b bytes is = plain_with (is_plain b) (b ∷ bytes) (prefix_len is_plain bytes) is (run_boundary is_plain (b ∷ bytes) (λ c e. grind (arith, nat_tests)))

pub plain_boundary : (bytes rest : List ℕ) (b n : ℕ) → bytes ≡ b ∷ rest → b ≢ 36 → n ≡ prefix_len is_plain rest → IsCharBoundary bytes (n + 1)
plain_boundary bytes rest b n cut other is = rw (cut, is) (plain_by b rest (ap not (ne_eqb b 36 other)))

-- the last byte of a part is ASCII
abbrev EndsInAscii : List ℕ → Beginning → Type 0
EndsInAscii bytes (takes part more) = (more < length bytes) × (get_or bytes more 0 < 128)
EndsInAscii bytes refuses = Unit {0}

option_ends : (bytes : List ℕ) (more : ℕ) (part : Option PlainPart) → more < length bytes → get_or bytes more 0 < 128 → EndsInAscii bytes (takes_or_refuses more part)
option_ends bytes more None l h = tt
option_ends bytes more (Some part) l h = (l, h)

if_ends : (t : Bool) (bytes : List ℕ) (x y : Beginning) → (t ≡ true → EndsInAscii bytes x) → EndsInAscii bytes y → EndsInAscii bytes (cond t x y)
if_ends true bytes x y h k = h refl
if_ends false bytes x y h k = k

-- behind `$`, an ASCII byte
one_ends : (b c : ℕ) (bytes : List ℕ) → (b == c) ≡ true → c < 128 → (1 < length (36 ∷ b ∷ bytes)) × (get_or (36 ∷ b ∷ bytes) 1 0 < 128)
one_ends b c bytes e h = (omega arith, omega (arith, eqb-true b c e))

not_false : (b : Bool) → not b ≡ false → b ≡ true
not_false true e = refl
not_false false e = cc

brace_at : (bytes : List ℕ) → position_or_len (λ b. b == 125) bytes < length bytes → get_or bytes (position_or_len (λ b. b == 125) bytes) 0 ≡ 125
brace_at bytes below = eqb-true _ _ (not_false _ (prefix_len_stops (λ b. not (b == 125)) bytes 0 below))

two_more : (a b n : ℕ) (bytes : List ℕ) → get_or (a ∷ b ∷ bytes) (n + 2) 0 ≡ get_or bytes n 0
two_more a b n bytes = let e : n + 2 ≡ suc (suc n) = omega arith in rw e refl

brace_by : (t : Bool) (b n : ℕ) (bytes : List ℕ) → (t ≡ true → (n < length bytes) × (get_or bytes n 0 < 128)) → EndsInAscii (36 ∷ b ∷ bytes) (up_to_brace bytes (cond t (Some n) None))
brace_by true b n bytes h = let r = h refl in option_ends (36 ∷ b ∷ bytes) (n + 2) _ (omega arith) (rw (two_more 36 b n bytes) r.1)
brace_by false b n bytes h = tt

braced_ends : (b : ℕ) (bytes : List ℕ) → EndsInAscii (36 ∷ b ∷ bytes) (braced bytes)
braced_ends b bytes = brace_by _ b (position_or_len (λ b. b == 125) bytes) bytes (λ t. let below = ltb-true _ _ t in (below, omega (arith, brace_at bytes below)))

goes_on_ascii : (b : ℕ) (bytes : List ℕ) → goes_on b bytes ≡ true → b < 128
goes_on_ascii b bytes e = grind (arith, nat_tests)

ascii_by : (t : Bool) (b k n : ℕ) (bytes : List ℕ) → (t ≡ true → b < 128) → ((i : ℕ) → i < n → (i < length bytes) × (get_or bytes i 0 < 128))
    → k < cond t (1 + n) 0 → (k < length (b ∷ bytes)) × (get_or (b ∷ bytes) k 0 < 128)
ascii_by true b zero n bytes h rest below = (omega arith, h refl)
ascii_by true b (suc k) n bytes h rest below = let r = rest k (omega arith) in (omega arith, r.1)
ascii_by false b k n bytes h rest below = absurd (omega arith)

dotted_ascii : (bytes : List ℕ) (k : ℕ) → k < dotted_len bytes → (k < length bytes) × (get_or bytes k 0 < 128)
dotted_ascii [] k below = absurd (omega arith)
dotted_ascii (b ∷ bytes) k below = ascii_by (goes_on b bytes) b k (dotted_len bytes) bytes (goes_on_ascii b bytes) (dotted_ascii bytes) below

name_ends : (bytes : List ℕ) (n : ℕ) → n ≤ dotted_len bytes → (n < length (36 ∷ bytes)) × (get_or (36 ∷ bytes) n 0 < 128)
name_ends bytes zero h = (omega arith, omega arith)
name_ends bytes (suc k) h = let r = dotted_ascii bytes k (omega arith) in (omega arith, r.1)

bare_ends : (bytes : List ℕ) → EndsInAscii (36 ∷ bytes) (bare bytes)
bare_ends bytes = let r = name_ends bytes (dotted_len bytes) (omega arith) in option_ends (36 ∷ bytes) (dotted_len bytes) _ r.0 r.1

dollar_ends : (bytes : List ℕ) → EndsInAscii (36 ∷ bytes) (behind_dollar bytes)
dollar_ends [] = (omega arith, omega arith)
dollar_ends (b ∷ bytes) =
    let stays : (0 < length (36 ∷ b ∷ bytes)) × (get_or (36 ∷ b ∷ bytes) 0 0 < 128) = (omega arith, omega arith) in
    if_ends (b == 36) (36 ∷ b ∷ bytes) _ _ (λ e. one_ends b 36 bytes e (omega arith))
    (if_ends (b == 40) (36 ∷ b ∷ bytes) _ _ (λ e. one_ends b 40 bytes e (omega arith))
    (if_ends (b == 41) (36 ∷ b ∷ bytes) _ _ (λ e. one_ends b 41 bytes e (omega arith))
    (if_ends (b == 123) (36 ∷ b ∷ bytes) _ _ (λ e. braced_ends b bytes)
    (if_ends (is_name_first b) (36 ∷ b ∷ bytes) _ _ (λ e. bare_ends (b ∷ bytes)) stays))))

boundary_of : (bytes : List ℕ) (f : Front) → IsUtf8 bytes → EndsInAscii bytes (beginning_of f) → EndsAtBoundary bytes f
boundary_of bytes (front.Takes part more) utf8 h = IsCharBoundary-after_ascii bytes more utf8 h.0 h.1
boundary_of bytes front.Refuses utf8 h = tt

dollar_by : (bytes : List ℕ) (f : Front) → IsUtf8 (36 ∷ bytes) → beginning_of f ≡ behind_dollar bytes → EndsAtBoundary (36 ∷ bytes) f
dollar_by bytes f utf8 is = boundary_of (36 ∷ bytes) f utf8 (rw is (dollar_ends bytes))

pub dollar_boundary : (bytes rest : List ℕ) (b : ℕ) (f : Front) → bytes ≡ b ∷ rest → b ≡ 36 → IsUtf8 bytes → beginning_of f ≡ behind_dollar rest → EndsAtBoundary bytes f
dollar_boundary bytes rest b f cut same utf8 is =
    let whole : bytes ≡ 36 ∷ rest = cut ∙ ap (λ x. x ∷ rest) same in
    subst (λ t. EndsAtBoundary t f) (sym whole) (dollar_by rest f (subst IsUtf8 whole utf8) is)
