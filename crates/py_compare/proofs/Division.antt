-- A quotient rounded down and its remainder make the dividend again.
use Rattle.std.proofs.Common.{arith, ◌≡◌, ◌≢◌, ◌∙◌, ◌+◌, ◌-◌, ◌*◌, ◌/◌, ◌%◌, ◌<◌, ◌≤◌, ◌^◌, ℕ, zero, suc, Bool, true, false, cond, Ok, Err, Result, refl, ap, sym, subst, true≢false, eq-eqb, ℤ, pos, negsuc, neg_ℤ}
use Rattle.std.specs.Prelude.{◌+ℤ◌, ◌*ℤ◌, ◌<ℤ◌, ◌≤ℤ◌, ◌==◌, nat_lt, unsigned_abs, IfOk}
use Rattle.std.specs.Int.{div_ceil}
use Rattle.std.proofs.lemmas.Int.{ints}
use Rattle.std.proofs.Math.IntN.{*ℤ_comm}
use Rattle.std.proofs.Math.Nat.{div-add-mod, mod-lt, mod-eq_of_lt, mod_self, mul-zero, mul-suc}
use Rattle.py_heap.specs.declared.fault.ValueFault.{ValueFault}
use Rattle.py_heap.specs.declared.fault.ValueFault.TheVariants as fault
use Rattle.py_compare.specs.Numbers.{fitting, floor_div, floor_rem, divided, remainder, IsDivision}

-- what is missing to the next multiple
ceiling : (m n : ℕ) → 0 < n → n * div_ceil m n ≡ m + (n - m % n) % n
ceiling m n h = by (m % n) refl
  where
    whole : n * (m / n) + m % n ≡ m
    whole = div-add-mod m n

    by : (r : ℕ) → m % n ≡ r → n * div_ceil m n ≡ m + (n - m % n) % n
    by zero e =
        let up : div_ceil m n ≡ m / n = omega (arith, e) in
        let all : n - m % n ≡ n = omega (arith, e) in
        let none : (n - m % n) % n ≡ 0 = ap (λ k. k % n) all ∙ mod_self n in
        ap (λ k. n * k) up ∙ omega (arith, e, none, whole)
    by (suc r) e =
        let low : m % n < n = mod-lt m h in
        let up : div_ceil m n ≡ suc (m / n) = omega (arith, e) in
        let small : n - m % n < n = omega (arith, e, low) in
        let rest : (n - m % n) % n ≡ n - m % n = mod-eq_of_lt {n = n - m % n} {m = n} small in
        ap (λ k. n * k) up ∙ mul-suc n (m / n) ∙ omega (arith, e, rest, whole, low)

rest_below : (m n : ℕ) → 0 < n → (n - m % n) % n < n
rest_below m n h = mod-lt (n - m % n) h

-- products and sums by their signs
neg_times_neg : (n c : ℕ) → negsuc n *ℤ neg_ℤ (pos c) ≡ pos (suc n * c)
neg_times_neg n zero = ap (λ k. neg_ℤ (pos k)) (mul-zero (suc n)) ∙ sym (ap pos (mul-zero (suc n)))
neg_times_neg n (suc c) = refl

pos_times_neg : (n c : ℕ) → pos n *ℤ neg_ℤ (pos c) ≡ neg_ℤ (pos (n * c))
pos_times_neg n zero = ap pos (mul-zero n) ∙ sym (ap (λ k. neg_ℤ (pos k)) (mul-zero n))
pos_times_neg n (suc c) = refl

less : (x m d : ℕ) → x ≡ m + d → pos m ≡ pos x +ℤ neg_ℤ (pos d)
less x m zero e = omega (arith, ints)
less x m (suc d) e = omega (arith, ints)

more : (x m d : ℕ) → x ≡ suc m + d → negsuc m ≡ neg_ℤ (pos x) +ℤ pos d
more zero m d e = absurd (omega arith)
more (suc x) m d e = omega (arith, ints)

both : (x m d : ℕ) → x + d ≡ suc m → negsuc m ≡ neg_ℤ (pos x) +ℤ neg_ℤ (pos d)
both zero m zero e = absurd (omega arith)
both zero m (suc d) e = omega (arith, ints)
both (suc x) m zero e = omega (arith, ints)
both (suc x) m (suc d) e = omega (arith, ints)

from_above : (m n c d : ℕ) → suc n * c ≡ m + d → pos m ≡ (negsuc n *ℤ neg_ℤ (pos c)) +ℤ neg_ℤ (pos d)
from_above m n c d e = less (suc n * c) m d e ∙ ap (λ k. k +ℤ neg_ℤ (pos d)) (sym (neg_times_neg n c))

from_below : (m n c d : ℕ) → n * c ≡ suc m + d → negsuc m ≡ (pos n *ℤ neg_ℤ (pos c)) +ℤ pos d
from_below m n c d e = more (n * c) m d e ∙ ap (λ k. k +ℤ pos d) (sym (pos_times_neg n c))

both_below : (m n q d : ℕ) → suc n * q + d ≡ suc m → negsuc m ≡ (negsuc n *ℤ pos q) +ℤ neg_ℤ (pos d)
both_below m n q d e = both (suc n * q) m d e

down : (d : ℕ) → neg_ℤ (pos d) ≤ℤ pos 0
down zero = omega (arith, ints)
down (suc d) = omega (arith, ints)

over : (n d : ℕ) → d < suc n → negsuc n <ℤ neg_ℤ (pos d)
over n zero h = omega (arith, ints)
over n (suc d) h = omega (arith, ints)

with_divisor : (a b q r : ℤ) → a ≡ (b *ℤ q) +ℤ r → a ≡ (q *ℤ b) +ℤ r
with_divisor a b q r e = e ∙ ap (λ k. k +ℤ r) (*ℤ_comm b q)

pub division : (a b : ℤ) → unsigned_abs b ≢ 0 → IsDivision a b (floor_div a b) (floor_rem a b)
division (pos m) (pos n) h =
    let some : 0 < n = omega (arith, h) in
    record { whole = with_divisor (pos m) (pos n) (pos (m / n)) (pos (m % n)) (ap pos (sym (div-add-mod m n))); near = (omega (arith, ints), let low = mod-lt m some in omega (arith, ints)) }
division (pos m) (negsuc n) h = record { whole = with_divisor (pos m) (negsuc n) (floor_div (pos m) (negsuc n)) (floor_rem (pos m) (negsuc n)) (from_above m n (div_ceil m (suc n)) ((suc n - m % suc n) % suc n) (ceiling m (suc n) (omega arith))); near = (over n _ (rest_below m (suc n) (omega arith)), down _) }
division (negsuc m) (pos n) h =
    let some : 0 < n = omega (arith, h) in
    record { whole = with_divisor (negsuc m) (pos n) (floor_div (negsuc m) (pos n)) (floor_rem (negsuc m) (pos n)) (from_below m n (div_ceil (suc m) n) ((n - suc m % n) % n) (ceiling (suc m) n some)); near = (omega (arith, ints), let low = rest_below (suc m) n some in omega (arith, ints)) }
division (negsuc m) (negsuc n) h =
    record { whole = with_divisor (negsuc m) (negsuc n) (floor_div (negsuc m) (negsuc n)) (floor_rem (negsuc m) (negsuc n)) (both_below m n (suc m / suc n) (suc m % suc n) (div-add-mod (suc m) (suc n))); near = (over n _ (mod-lt (suc m) (omega arith)), down _) }

fitted_is : (z q : ℤ) → fitting z ≡ Ok q → q ≡ z
unfolding fitting
fitted_is (pos n) q e = by (nat_lt n (2 ^ 63)) e
  where
    by : (b : Bool) → cond b (Ok (pos n)) (Err fault.Overflow) ≡ Ok q → q ≡ pos n
    by true e' = cc
    by false e' = absurd (cc)
fitted_is (negsuc n) q e = by (nat_lt n (2 ^ 63)) e
  where
    by : (b : Bool) → cond b (Ok (negsuc n)) (Err fault.Overflow) ≡ Ok q → q ≡ negsuc n
    by true e' = cc
    by false e' = absurd (cc)

-- where one of the two is told, it and the other are such a pair
pub quotient_law : (a b : ℤ) (r : Result ℤ ValueFault) → r ≡ divided a b → IfOk r (λ q. IsDivision a b q (floor_rem a b))
quotient_law a b (Err e) is = tt
quotient_law a b (Ok q) is = by (unsigned_abs b == 0) refl is
  where
    by : (t : Bool) → (unsigned_abs b == 0) ≡ t → Ok q ≡ cond t (Err fault.Zero) (fitting (floor_div a b)) → IsDivision a b q (floor_rem a b)
    by true zero_is e = absurd (cc)
    by false zero_not e = subst (λ x. IsDivision a b x (floor_rem a b)) (sym (fitted_is (floor_div a b) q (sym e))) (division a b (λ n. absurd (true≢false (sym (eq-eqb _ _ n) ∙ zero_not))))

pub remainder_law : (a b : ℤ) (r : Result ℤ ValueFault) → r ≡ remainder a b → IfOk r (λ x. IsDivision a b (floor_div a b) x)
remainder_law a b (Err e) is = tt
remainder_law a b (Ok q) is = by (unsigned_abs b == 0) refl is
  where
    by : (t : Bool) → (unsigned_abs b == 0) ≡ t → Ok q ≡ cond t (Err fault.Zero) (fitting (floor_rem a b)) → IsDivision a b (floor_div a b) q
    by true zero_is e = absurd (cc)
    by false zero_not e = subst (λ x. IsDivision a b (floor_div a b) x) (sym (fitted_is (floor_rem a b) q (sym e))) (division a b (λ n. absurd (true≢false (sym (eq-eqb _ _ n) ∙ zero_not))))
