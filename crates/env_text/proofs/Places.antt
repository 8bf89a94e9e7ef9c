-- What is read at a place of a text.
use Rattle.std.proofs.Common.{arith, ◌≡◌, ◌≢◌, ◌+◌, ◌-◌, ◌∷◌, [], ℕ, zero, suc, List, take, drop, drop-drop, add-zero, add-one, ne_eqb, refl, sym, ap, ◌∙◌}
use Rattle.std.specs.List.{prefix_len, slice_range}
use Rattle.env_text.specs.Bytes.{is_plain}
use Rattle.env_text.specs.Parts.{PlainPart, text}
use Rattle.env_text.specs.Readings.{takes, refuses, beginning_at, ends, part_at, bad_brace, reading_behind, reading_from}

reading_skipped : (n at : ℕ) (bytes : List ℕ) → reading_behind n at bytes ≡ reading_behind 0 (at + n) (drop n bytes)
reading_skipped zero at bytes = rw add-zero refl
reading_skipped (suc n) at [] = refl
reading_skipped (suc n) at (b ∷ bytes) =
    let e : at + 1 + n ≡ at + suc n = omega arith in
    reading_skipped n (at + 1) bytes ∙ ap (λ k. reading_behind 0 k (drop n bytes)) e

pub part_read : (bytes rest : List ℕ) (at b more : ℕ) (part : PlainPart) → drop at bytes ≡ b ∷ rest → beginning_at b rest ≡ takes part more
    → reading_from bytes at ≡ part_at at part (reading_from bytes (at + more + 1))
part_read bytes rest at b more part cut is =
    let behind : rest ≡ drop (at + 1) bytes = ap (drop 1) (sym cut) ∙ drop-drop 1 at bytes in
    let sum : at + 1 + more ≡ at + more + 1 = omega arith in
    let far : drop more rest ≡ drop (at + 1 + more) bytes = ap (drop more) behind ∙ drop-drop more (at + 1) bytes in
    rw (cut, is) (ap (part_at at part) (reading_skipped more (at + 1) rest ∙ ap (reading_behind 0 (at + 1 + more)) far ∙ ap (reading_from bytes) sum))

pub brace_refused : (bytes rest : List ℕ) (at b : ℕ) → drop at bytes ≡ b ∷ rest → beginning_at b rest ≡ refuses → reading_from bytes at ≡ bad_brace at
brace_refused bytes rest at b cut is = rw (cut, is) refl

pub text_read : (bytes : List ℕ) (at : ℕ) → drop at bytes ≡ [] → reading_from bytes at ≡ ends
text_read bytes at cut = rw cut refl

pub plain_read : (bytes rest t : List ℕ) (b n : ℕ) → bytes ≡ b ∷ rest → b ≢ 36 → n ≡ prefix_len is_plain rest → t ≡ slice_range bytes 0 (n + 1) → takes (text t) n ≡ beginning_at b rest
plain_read bytes rest t b n cut other is taken =
    let front : take (n + 1) (b ∷ rest) ≡ b ∷ take n rest = rw add-one refl in
    let size : n + 1 - 0 ≡ n + 1 = omega arith in
    let whole : t ≡ b ∷ take n rest = taken ∙ ap (λ k. take k bytes) size ∙ ap (take (n + 1)) cut ∙ front in
    rw (ne_eqb b 36 other, whole, is) refl
