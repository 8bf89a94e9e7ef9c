-- The answer of `all` at the end of a chain, as a test of the whole list.
use Rattle.std.proofs.Common.{arith, ◌≡◌, ◌<◌, ℕ, List, Bool, true, false, length, sym}
use Rattle.std.specs.Bool.{MatchBool}
use Rattle.std.specs.List.{list_all, AllWithin, HoldsAt}
use Rattle.std.proofs.lemmas.List.Sums.{list_all-from_AllPass}
use Rattle.std.proofs.lemmas.List.Folds.{list_all_at}

pub all_passed : {X : Type 0} (default : X) (r : Bool) (p : X → Bool) (xs : List X) → MatchBool r (AllWithin (λ x. p x ≡ true) xs 0 (length xs)) ((k : ℕ) × (k < length xs) × HoldsAt (λ x. p x ≡ false) xs k) → r ≡ list_all p xs
all_passed default true p xs h = sym (list_all-from_AllPass p xs (λ k d l. h k d (omega arith) l))
all_passed default false p xs h = sym (list_all_at p xs h.0 default h.1 (h.2 default))
