use Rattle.std.proofs.Common.{arith, ◌≡◌, ◌≢◌, ◌≤◌, ◌<◌, ◌-◌, ◌+◌, ◌==◌, ℕ, not, List, length, get_or, ap, ne_eqb, eq-eqb}
use Rattle.std.specs.List.{suffix_len}
use Rattle.std.specs.Str.{IsUtf8, IsCharBoundary}
use Rattle.std.proofs.lemmas.List.Sums.{suffix_len_is}
use Rattle.std.proofs.lemmas.Str.{IsCharBoundary-after_ascii, IsCharBoundary-start}
use Rattle.scons_base.specs.Parts.{behind_last}
use Rattle.scons_decls.proofs.glob.behind_slash.Goals as goal

-- the place that the loop stops at is the one behind the last such byte
place : (c : ℕ) (bytes : List ℕ) (n : ℕ) → n ≤ length bytes → ((k : ℕ) → n ≤ k → k < length bytes → get_or bytes k 0 ≢ c)
    → (0 < n → get_or bytes (n - 1) 0 ≡ c) → n ≡ behind_last c bytes
place c bytes n low none at =
    let e : suffix_len (λ b. not (b == c)) bytes ≡ length bytes - n = suffix_len_is (λ b. not (b == c)) bytes n 0 low (λ k l h. ap not (ne_eqb _ _ (none k l h))) (λ h. ap not (eq-eqb _ _ (at h))) in
    omega arith

pub returns-else-bytes-behind-ne47-clause-place : goal.returns-else-bytes-behind-ne47-clause-place
returns-else-bytes-behind-ne47-clause-place c = rw (← c.as_bytes-bytes.ensures.value) (place _ _ _ c.loop-behind.invariant.0 c.loop-behind.invariant.1 (λ _. c.if-bytes-behind-ne47.false))

boundary : (bytes : List ℕ) (n : ℕ) → IsUtf8 bytes → 0 < n → n ≤ length bytes → get_or bytes (n - 1) 0 < 128 → IsCharBoundary bytes n
boundary bytes n utf8 above low ascii = let e : n - 1 + 1 ≡ n = omega arith in rw e at (IsCharBoundary-after_ascii bytes (n - 1) utf8 (omega arith) ascii)

pub returns-else-bytes-behind-ne47-clause-boundary : goal.returns-else-bytes-behind-ne47-clause-boundary
returns-else-bytes-behind-ne47-clause-boundary c = rw (← c.as_bytes-bytes.ensures.value) (boundary _ _ c.as_bytes-bytes.ensures.utf8 c.loop-behind-test.true c.loop-behind.invariant.0 (omega (arith, c.if-bytes-behind-ne47.false)))

pub returns-after-loop-behind-clause-place : goal.returns-after-loop-behind-clause-place
returns-after-loop-behind-clause-place c = rw (← c.as_bytes-bytes.ensures.value) (place _ _ _ c.loop-behind.invariant.0 c.loop-behind.invariant.1 (λ h. absurd (omega arith)))

start : (bytes : List ℕ) (n : ℕ) → IsUtf8 bytes → n ≤ 0 → IsCharBoundary bytes n
start bytes n utf8 zero = let e : n ≡ 0 = omega arith in rw e (IsCharBoundary-start bytes utf8)

pub returns-after-loop-behind-clause-boundary : goal.returns-after-loop-behind-clause-boundary
returns-after-loop-behind-clause-boundary c = start _ _ c.utf8.text c.loop-behind-test.false
