-- Texts without a `$`.
use Rattle.std.proofs.Common.{◌≡◌, ◌∙◌, ◌<◌, ◌+◌, ◌==◌, ℕ, Bool, true, false, not, cond, List, [], ◌∷◌, length, take, refl, ap, arith}
use Rattle.std.specs.Prelude.{◌&&◌, if◌then◌else◌}
use Rattle.std.specs.List.{prefix_len, list_all}
use Rattle.std.proofs.lemmas.List.{take_all}
use Rattle.scons_base.specs.Runs.{front_run}
use Rattle.env_text.specs.Bytes.{is_plain}
use Rattle.env_text.specs.Parts.{text}
use Rattle.env_text.specs.Readings.{ends, part_at, takes, behind_dollar, then_rest, reading_behind, reading_of}
use Rattle.env_subst.specs.Expansions.{is_literal}

plain_front : (b : ℕ) (rest : List ℕ) → list_all is_plain (b ∷ rest) ≡ true → (b == 36) ≡ false
plain_front b rest h = by (b == 36) h
  where
    by : (t : Bool) → (not t && list_all is_plain rest) ≡ true → t ≡ false
    by true e = cc
    by false e = refl

plain_rest : (b : ℕ) (rest : List ℕ) → list_all is_plain (b ∷ rest) ≡ true → list_all is_plain rest ≡ true
plain_rest b rest h = by (is_plain b) h
  where
    by : (t : Bool) → (t && list_all is_plain rest) ≡ true → list_all is_plain rest ≡ true
    by true e = e
    by false e = cc

all_plain : (bytes : List ℕ) → list_all is_plain bytes ≡ true → prefix_len is_plain bytes ≡ length bytes
all_plain [] h = refl
all_plain (b ∷ bytes) h =
    let count : prefix_len is_plain bytes ≡ length bytes = all_plain bytes (plain_rest b bytes h) in
    let sum : 1 + length bytes ≡ length (b ∷ bytes) = omega arith in
    ap (λ t. cond (not t) (1 + prefix_len is_plain bytes) 0) (plain_front b bytes h) ∙ ap (λ n. 1 + n) count ∙ sum

over_all : (bytes : List ℕ) (place : ℕ) → reading_behind (length bytes) place bytes ≡ ends
over_all [] place = refl
over_all (b ∷ bytes) place = over_all bytes (place + 1)

-- is read as one part
pub literal_is : (t : List ℕ) → is_literal t ≡ true → 0 < length t → reading_of t ≡ part_at 0 (text t) ends
literal_is [] h full = absurd (omega arith)
literal_is (b ∷ rest) h full =
    let count : prefix_len is_plain rest ≡ length rest = all_plain rest (plain_rest b rest h) in
    let front : front_run is_plain rest ≡ rest = ap (λ n. take n rest) count ∙ take_all (length rest) rest (omega arith) in
    ap (λ test. then_rest 0 (if test then behind_dollar rest else takes (text (b ∷ front_run is_plain rest)) (prefix_len is_plain rest)) (λ skipped. reading_behind skipped 1 rest)) (plain_front b rest h)
    ∙ ap (λ bytes. part_at 0 (text (b ∷ bytes)) (reading_behind (prefix_len is_plain rest) 1 rest)) front
    ∙ ap (λ r. part_at 0 (text (b ∷ rest)) r) (ap (λ n. reading_behind n 1 rest) count ∙ over_all rest 1)
