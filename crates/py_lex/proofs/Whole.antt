-- The script behind its bytes.
use Rattle.std.proofs.Common.{◌≡◌, ℕ, ◌≤◌, Bool, true, false, List, [], ◌∷◌, ◌++◌, length, take, refl, sym, ap, subst, arith}
use Rattle.std.specs.Prelude.{Result, Ok, Err, nat_lt, if◌then◌else◌}
use Rattle.std.specs.Str.{IsUtf8, is_utf8}
use Rattle.std.specs.Str.Lossy.{utf8_valid_len}
use Rattle.std.proofs.lemmas.Str.{IsUtf8-from_is_utf8, is_utf8-from_IsUtf8}
use Rattle.std.proofs.lemmas.Bool.Decides.{nat_tests}
use Rattle.scons_base.specs.declared.limits.TheConstants.{SCRIPT_LIMIT}
use Rattle.py_token.specs.declared.token.Tokens.{Tokens}
use Rattle.py_lex.specs.declared.fault.LexFault.{LexFault}
use Rattle.py_lex.specs.declared.fault.LexFault.TheVariants.{At, Memory}
use Rattle.py_lex.specs.Steps.{start}
use Rattle.py_lex.specs.Lexes.{Outcome, Reads, ReadIf, IsRead, Agrees, marked, without_order_mark}

pub agrees_too : (r : Result Tokens LexFault) (P Q : Outcome → Type 0) → ((o : Outcome) → P o → Q o) → Agrees r P → Agrees r Q
agrees_too (Ok tokens) P Q h = λ p. h _ p
agrees_too (Err (At line kind)) P Q h = λ p. h _ p
agrees_too (Err Memory) P Q h = λ p. tt

within : (n : ℕ) → n ≤ SCRIPT_LIMIT → nat_lt SCRIPT_LIMIT n ≡ false
within n h = grind (arith, nat_tests)

pub read_whole : (bytes script : List ℕ) → length bytes ≤ SCRIPT_LIMIT → script ≡ marked (without_order_mark bytes) → (o : Outcome) → Reads (start script) o → IsRead bytes o
read_whole bytes script h is o r =
    subst (λ b. ReadIf b bytes o) (sym (within (length bytes) h)) (subst (λ x. Reads (start x) o) is r)

pub marked_text : (bytes : List ℕ) → IsUtf8 bytes → marked bytes ≡ bytes
marked_text bytes is = ap (λ b. if b then bytes else take (utf8_valid_len bytes) bytes ++ 255 ∷ []) (is_utf8-from_IsUtf8 bytes is)

is_false : (bytes : List ℕ) (b : Bool) → is_utf8 bytes ≡ b → (IsUtf8 bytes → ⊥) → b ≡ false
is_false bytes true e = λ other. absurd (other (IsUtf8-from_is_utf8 bytes e))
is_false bytes false e = λ other. refl

pub marked_other : (bytes : List ℕ) → (IsUtf8 bytes → ⊥) → marked bytes ≡ take (utf8_valid_len bytes) bytes ++ 255 ∷ []
marked_other bytes other = ap (λ b. if b then bytes else take (utf8_valid_len bytes) bytes ++ 255 ∷ []) (is_false bytes _ refl other)
