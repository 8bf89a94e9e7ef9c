-- A pair set in a dict.
use Rattle.std.proofs.Common.{arith, ◌≡◌, ◌<◌, ◌∙◌, ℕ, zero, suc, List, [], ◌∷◌, ◌++◌, Bool, true, false, ap, sym, refl, length, get_or, set, Some, None}
use Rattle.std.specs.Prelude.{position, nat_lt}
use Rattle.std.specs.List.{position_or_len}
use Rattle.std.specs.Str.{bytes_eq}
use Rattle.std.proofs.lemmas.Bool.{ltb-false}
use Rattle.std.proofs.lemmas.List.Quantifiers.{position-Some}
use Rattle.std.proofs.lemmas.List.Sums.{fails_before_first}
use Rattle.env_vars.specs.declared.value.Item.{Item}
use Rattle.env_vars.specs.Added.{set_pair}

abbrev Pair : Type 0
Pair = List ℕ × Item

set_first : (pairs : List Pair) (pair : Pair) (i : ℕ) → i < length pairs → bytes_eq pair.0 (get_or pairs i pair).0 ≡ true
    → ((k : ℕ) → k < i → bytes_eq pair.0 (get_or pairs k pair).0 ≡ false) → set pairs i pair ≡ set_pair pairs pair
set_first [] pair i l at before = absurd (omega arith)
set_first (p ∷ pairs) pair zero l at before = rw at refl
set_first (p ∷ pairs) pair (suc i) l at before =
    rw (before 0 (omega arith)) (ap (λ rest. p ∷ rest) (set_first pairs pair i (omega arith) at (λ k h. before (suc k) (omega arith))))

set_last : (pairs : List Pair) (pair : Pair) → ((k : ℕ) → k < length pairs → bytes_eq pair.0 (get_or pairs k pair).0 ≡ false) → pairs ++ pair ∷ [] ≡ set_pair pairs pair
set_last [] pair none = refl
set_last (p ∷ pairs) pair none = rw (none 0 (omega arith)) (ap (λ rest. p ∷ rest) (set_last pairs pair (λ k h. none (suc k) (omega arith))))

pub set_there : (pairs : List Pair) (pair : Pair) (i : ℕ) → position (λ p. bytes_eq pair.0 p.0) pairs ≡ Some i → set pairs i pair ≡ set_pair pairs pair
set_there pairs pair i h = let k = position-Some (λ (p : Pair). bytes_eq pair.0 p.0) pairs i pair h in set_first pairs pair i k.0 k.1 k.2

pub set_new : (pairs : List Pair) (pair : Pair) → position (λ p. bytes_eq pair.0 p.0) pairs ≡ None → pairs ++ pair ∷ [] ≡ set_pair pairs pair
set_new pairs pair h = set_last pairs pair (λ k l. fails_before_first (λ (p : Pair). bytes_eq pair.0 p.0) pairs k pair (by (nat_lt (position_or_len (λ (p : Pair). bytes_eq pair.0 p.0) pairs) (length pairs)) refl k l))
  where
    by : (b : Bool) → nat_lt (position_or_len (λ (p : Pair). bytes_eq pair.0 p.0) pairs) (length pairs) ≡ b → (k : ℕ) → k < length pairs → k < position_or_len (λ (p : Pair). bytes_eq pair.0 p.0) pairs
    by true e k l =
        let found : position (λ (p : Pair). bytes_eq pair.0 p.0) pairs ≡ Some (position_or_len (λ (p : Pair). bytes_eq pair.0 p.0) pairs) = rw e refl in
        let clash : Some (position_or_len (λ (p : Pair). bytes_eq pair.0 p.0) pairs) ≡ None = sym found ∙ h in cc
    by false e k l = omega (arith, ltb-false _ _ e)
