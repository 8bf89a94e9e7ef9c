-- Numbers that have 64 bits.
use Rattle.std.proofs.Common.{arith, ◌≡◌, ◌∙◌, ◌<◌, ◌≤◌, ◌^◌, ℕ, zero, suc, Bool, true, false, Ok, Err, Option, Some, None, Result, refl, ap, sym, ℤ, pos, negsuc, neg_ℤ, w64}
use Rattle.std.specs.Prelude.{nat_lt, FitsSigned}
use Rattle.std.specs.Option.{SomeIff, ok_or}
use Rattle.std.proofs.lemmas.Bool.{lt-ltb, ltb-true, le-ltb}
use Rattle.py_heap.specs.declared.fault.ValueFault.{ValueFault}
use Rattle.py_heap.specs.declared.fault.ValueFault.TheVariants as fault
use Rattle.py_compare.specs.Numbers.{fitting}

pub fits : (z : ℤ) → FitsSigned w64 z → fitting z ≡ Ok z
unfolding fitting
fits (pos n) h = let l : n < 2 ^ 63 = h.sfits in rw (lt-ltb n (2 ^ 63) l) refl
fits (negsuc n) h = let l : n < 2 ^ 63 = h.sfits in rw (lt-ltb n (2 ^ 63) l) refl

pub fits_not : (z : ℤ) → (FitsSigned w64 z → ⊥) → fitting z ≡ Err fault.Overflow
unfolding fitting
fits_not (pos n) h = by (nat_lt n (2 ^ 63)) refl
  where
    by : (b : Bool) → nat_lt n (2 ^ 63) ≡ b → fitting (pos n) ≡ Err fault.Overflow
    by true e = let l : n < 2 ^ 63 = ltb-true n (2 ^ 63) e in absurd (h (record { sfits = l }))
    by false e = rw e refl
fits_not (negsuc n) h = by (nat_lt n (2 ^ 63)) refl
  where
    by : (b : Bool) → nat_lt n (2 ^ 63) ≡ b → fitting (negsuc n) ≡ Err fault.Overflow
    by true e = let l : n < 2 ^ 63 = ltb-true n (2 ^ 63) e in absurd (h (record { sfits = l }))
    by false e = rw e refl

-- what a checked operation gives
pub checked : (o : Option ℤ) (z : ℤ) (r : Result ℤ ValueFault) → SomeIff o (FitsSigned w64 z) z → r ≡ ok_or o fault.Overflow → r ≡ fitting z
checked None z r h e = e ∙ sym (fits_not z h)
checked (Some x) z r h e = e ∙ ap Ok h.1 ∙ sym (fits z h.0)

-- numbers by their distance from 0
pub fits_above : (d : ℕ) → d < 2 ^ 63 → fitting (pos d) ≡ Ok (pos d)
fits_above d l = fits (pos d) (record { sfits = l })

pub fits_below : (d : ℕ) → d ≤ 2 ^ 63 → fitting (neg_ℤ (pos d)) ≡ Ok (neg_ℤ (pos d))
fits_below zero l = fits (pos 0) (record { sfits = omega arith })
fits_below (suc n) l = fits (negsuc n) (record { sfits = omega arith })

pub passes_above : (d : ℕ) → 2 ^ 63 ≤ d → fitting (pos d) ≡ Err fault.Overflow
unfolding fitting
passes_above d l = rw (le-ltb d (2 ^ 63) l) refl

pub passes_below : (d : ℕ) → 2 ^ 63 < d → fitting (neg_ℤ (pos d)) ≡ Err fault.Overflow
unfolding fitting
passes_below zero l = absurd (omega arith)
passes_below (suc n) l = rw (le-ltb n (2 ^ 63) (omega arith)) refl

pub ruleset fitted = (checked, fits, fits_not)
