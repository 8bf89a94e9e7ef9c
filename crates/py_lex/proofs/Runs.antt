-- Where a comment ends.
use Rattle.std.proofs.Common.{◌≡◌, ℕ, Bool, true, false, not, List, length, refl, arith, ap}
use Rattle.std.specs.List.{prefix_len}
use Rattle.std.proofs.lemmas.List.Sums.{prefix_len_is}
use Rattle.memchr.specs.Find.{NoneBefore, Nowhere, Passes, is_byte2}
use Rattle.py_lex.specs.Bytes.{is_comment_byte}

not_true : (b : Bool) → (b ≡ true → ⊥) → not b ≡ true
not_true true = λ no. absurd (no refl)
not_true false = λ no. refl

pub comment_found : (bytes : List ℕ) (end : ℕ) → NoneBefore (Passes (is_byte2 10 255) bytes) 0 (length bytes) end → Passes (is_byte2 10 255) bytes end → prefix_len is_comment_byte bytes ≡ end
comment_found bytes end first ends =
    prefix_len_is is_comment_byte bytes end 0 (omega (arith, first.high))
    (λ k below. not_true _ (first.before k (omega arith) below))
    (λ _. ap not ends)

pub comment_goes_on : (bytes : List ℕ) → Nowhere (Passes (is_byte2 10 255) bytes) 0 (length bytes) → prefix_len is_comment_byte bytes ≡ length bytes
comment_goes_on bytes none =
    prefix_len_is is_comment_byte bytes (length bytes) 0 (omega arith)
    (λ k below. not_true _ (none k (omega arith) below))
    (λ h. absurd (omega (arith, h)))
