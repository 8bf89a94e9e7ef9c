-- Integers counted on.
use Rattle.std.proofs.Common.{arith, ◌≡◌, ◌∙◌, ◌^◌, ◌++◌, Ok, Err, ℕ, ◌∷◌, [], true, zero, suc, ℤ, pos, negsuc, ◌+◌, ◌-◌, ◌+ℤ◌, ◌<◌, ◌<ℤ◌, ◌≤ℤ◌, List, ap, sym}
use Rattle.std.specs.Int.{int_gap}
use Rattle.std.specs.Int.Signed.{lt_z}
use borrow.Author.Differences.{up, down}
use Rattle.std.proofs.lemmas.List.{append_assoc, append-nil}
use Rattle.std.proofs.lemmas.Int.{ints}
use Rattle.py_heap.specs.declared.value.Value.{Value}
use Rattle.py_heap.specs.declared.value.Value.TheVariants as v
use Rattle.py_heap.specs.declared.fault.ValueFault.TheVariants as fault
use Rattle.py_builtins.specs.Numbers.{span, counted}
use Rattle.py_builtins.specs.Rows.{numbers_fit}

pub below : (a b : ℤ) → lt_z a b ≡ true → a <ℤ b
below a b e = grind (arith, ints)

-- a gap, for `omega`
pub gap_is : (a b : ℤ) → int_gap a b ≡ (up b + down a) - (up a + down b)
gap_is (pos a) (pos b) = omega arith
gap_is (pos a) (negsuc b) = omega arith
gap_is (negsuc a) (pos b) = omega arith
gap_is (negsuc a) (negsuc b) = omega arith

span-below : (from to : ℤ) → from <ℤ to → span from to ≡ suc (span (from +ℤ pos 1) to)
span-below from to l = omega (arith, ints, gap_is from to, gap_is (from +ℤ pos 1) to)

span-past : (from to : ℤ) → to ≤ℤ from → span from to ≡ 0
span-past from to l = omega (arith, ints, gap_is from to)

pub counted_more : (from to next : ℤ) (made new all : List Value) → from <ℤ to → next ≡ from +ℤ pos 1 → made ++ counted (span from to) from ≡ all → new ≡ made ++ v.Int from ∷ [] → new ++ counted (span next to) next ≡ all
counted_more from to next made new all l step inv e =
    ap (λ m. new ++ counted (span m to) m) step ∙ ap (λ xs. xs ++ counted (span (from +ℤ pos 1) to) (from +ℤ pos 1)) e
    ∙ append_assoc made (v.Int from ∷ []) (counted (span (from +ℤ pos 1) to) (from +ℤ pos 1)) ∙ ap (λ n. made ++ counted n from) (sym (span-below from to l)) ∙ inv

pub span_falls : (from to next : ℤ) → from <ℤ to → next ≡ from +ℤ pos 1 → span next to < span from to
span_falls from to next l step = omega (arith, ap (λ m. span m to) step, span-below from to l)

pub counted_done : (from to : ℤ) (made all : List Value) → to ≤ℤ from → made ++ counted (span from to) from ≡ all → made ≡ all
counted_done from to made all l inv = sym (append-nil made) ∙ ap (λ n. made ++ counted n from) (sym (span-past from to l)) ∙ inv

-- so many integers from one on have 64 bits, or not
pub fit : (from : ℤ) (n : ℕ) → (from +ℤ pos n) ≤ℤ pos (2 ^ 63) → numbers_fit from n ≡ Ok tt
fit from n l = grind (arith, ints)

pub fit_not : (from : ℤ) (n : ℕ) → pos (2 ^ 63) <ℤ (from +ℤ pos n) → numbers_fit from n ≡ Err fault.Overflow
fit_not from n l = grind (arith, ints)

pub ruleset fitting = (fit, fit_not)

pub ruleset gaps = (ints, gap_is)

pub ruleset counting = (counted_more, counted_done, span_falls)
